use mathlib.Core.Path.{◌≡◌, refl, sym, ◌∙◌}
use mathlib.Core.List.{◌∷◌}
use native.Mathlib.Omega.{arith}
use borrow.Author.Rules.{rules}
use lib.ListN.{length}
use Rattle.std.specs.Prelude.{Some}
use Rattle.command.specs.declared.Command.TheVariants.{Sets, Loads, Paints}
use Rattle.execute.specs.Kept.{as_box}
use Rattle.execute.proofs.Told.{sets_blank, loads_blank}
use Rattle.execute.proofs.Laws.{because-is}
use Rattle.run.proofs.Laws.{held_start, held_takes, held_word, held_runs, held-is, held-command, held-painted, held-unknown, held_fits, held-gathered, held_end}
use Rattle.run.proofs.run_words.Goals as goal
use Rattle.run.proofs.run_words.Goals.{In-Some, After-into_state-s, After-into_state-s-in-Some-Loads, In-Some-Sets, In-Some-Loads, In-Some-Paints}

-- the word at hand and those behind it are what was left
turn : (c : In-Some) → c.loop-w.left.now ≡ c.in-Some.field-0-0.now ∷ c.in-Some.rest.now
turn c = search rules

-- what the command is
sets : (c : In-Some-Sets) → c.command_of.result ≡ Some (Sets c.in-Some-Sets.setting)
sets c = cc

loads : (c : In-Some-Loads) → c.command_of.result ≡ Some (Loads c.in-Some-Loads.kind)
loads c = cc

paints : (c : In-Some-Paints) → c.command_of.result ≡ Some (Paints c.in-Some-Paints.d)
paints c = cc

-- a state's arrays of slots have their length by their type
set-textures : (c : After-into_state-s) → length c.into_state-s.result.textures ≡ 64
set-textures c = c.into_state-s.type_inv.1.1.1.0.1.0.1

set-models : (c : After-into_state-s) → length c.into_state-s.result.models ≡ 64
set-models c = c.into_state-s.type_inv.1.1.1.1.0.1.0.1

load-textures : (c : After-into_state-s-in-Some-Loads) → length c.into_state-s-in-Some-Loads.result.textures ≡ 64
load-textures c = c.into_state-s-in-Some-Loads.type_inv.1.1.1.0.1.0.1

load-models : (c : After-into_state-s-in-Some-Loads) → length c.into_state-s-in-Some-Loads.result.models ≡ 64
load-models c = c.into_state-s-in-Some-Loads.type_inv.1.1.1.1.0.1.0.1

pub loop-w-init : goal.loop-w-init
loop-w-init c = held_start _ _ _ _ _ _ _ _ c.requires c.from-f.ensures (λ i. omega (arith, c.type_inv.words i))

pub take_word-f-requires : goal.take_word-f-requires
take_word-f-requires c = let h = c.loop-w.invariant in
    record { wanted_in_bounds = held_takes h; command_len = h.sound.of-command }

-- the turn, if the command sets
pub after_set-requires : goal.after_set-requires
after_set-requires c =
    let at = goal.at.after_set-requires c in
    record {
      opcode_value = held-is c.loop-w.invariant (turn at.In-Some) c.take_word-f.ensures.value c.take_word-f.ensures.command_after c.into_state-s.ensures c.command_of.ensures (sets at.In-Some-Sets);
      gathered_in_bounds = (held_runs c.loop-w.invariant (turn at.In-Some) c.take_word-f.ensures.value c.take_word-f.ensures.command_after c.into_state-s.ensures).within;
    }

pub loop-w-preserved-in-Some-Sets : goal.loop-w-preserved-in-Some-Sets
loop-w-preserved-in-Some-Sets c =
    let at = goal.at.loop-w-preserved-in-Some-Sets c in
    held-command c.loop-w.invariant (turn at.In-Some) c.take_word-f.ensures.value c.take_word-f.ensures.command_after (sym c.ready.ensures ∙ c.if-ready.true) c.into_state-s.ensures
    (sets_blank as_box _ _ (held-is c.loop-w.invariant (turn at.In-Some) c.take_word-f.ensures.value c.take_word-f.ensures.command_after c.into_state-s.ensures c.command_of.ensures (sets at.In-Some-Sets)))
    (c.after_set.ensures _ _) refl refl (set-textures at.After-into_state-s) (set-models at.After-into_state-s) c.from-f-in-Some-Sets.ensures

-- the turn, if it loads
pub after_load-requires : goal.after_load-requires
after_load-requires c =
    let at = goal.at.after_load-requires c in
    let r = held_runs c.loop-w.invariant (turn at.In-Some) c.take_word-f.ensures.value c.take_word-f.ensures.command_after c.into_state-s-in-Some-Loads.ensures in
    record {
      opcode_value = held-is c.loop-w.invariant (turn at.In-Some) c.take_word-f.ensures.value c.take_word-f.ensures.command_after c.into_state-s-in-Some-Loads.ensures c.command_of.ensures (loads at.In-Some-Loads);
      gathered_in_bounds = r.within;
      command_len = r.of-command;
      formed = r.of-textures;
      formed_2 = r.of-models;
    }

pub loop-w-preserved-in-Some-Loads : goal.loop-w-preserved-in-Some-Loads
loop-w-preserved-in-Some-Loads c =
    let at = goal.at.loop-w-preserved-in-Some-Loads c in
    held-command c.loop-w.invariant (turn at.In-Some) c.take_word-f.ensures.value c.take_word-f.ensures.command_after (sym c.ready.ensures ∙ c.if-ready.true) c.into_state-s-in-Some-Loads.ensures
    (loads_blank as_box _ _ (held-is c.loop-w.invariant (turn at.In-Some) c.take_word-f.ensures.value c.take_word-f.ensures.command_after c.into_state-s-in-Some-Loads.ensures c.command_of.ensures (loads at.In-Some-Loads)))
    c.after_load.ensures c.after_load.auto.textures c.after_load.auto.models (load-textures at.After-into_state-s-in-Some-Loads) (load-models at.After-into_state-s-in-Some-Loads) c.from-f-in-Some-Loads.ensures

-- the turn, if it paints
pub painted-f-requires : goal.painted-f-requires
painted-f-requires c =
    let at = goal.at.painted-f-requires c in
    let r = held_runs c.loop-w.invariant (turn at.In-Some) c.take_word-f.ensures.value c.take_word-f.ensures.command_after refl in
    record {
      opcode_value = sym c.command_of.ensures ∙ paints at.In-Some-Paints;
      gathered_in_bounds = r.within;
      textures_value = r.of-textures.ok;
      models_value = r.of-models.ok;
    }

pub loop-w-preserved-in-Some-Paints : goal.loop-w-preserved-in-Some-Paints
loop-w-preserved-in-Some-Paints c =
    let at = goal.at.loop-w-preserved-in-Some-Paints c in
    held-painted c.loop-w.invariant (turn at.In-Some) c.take_word-f.ensures.value c.take_word-f.ensures.command_after (sym c.ready.ensures ∙ c.if-ready.true) c.painted-f.ensures (search rules) (search rules) (search rules)

pub loop-w-preserved-in-None : goal.loop-w-preserved-in-None
loop-w-preserved-in-None c =
    let at = goal.at.loop-w-preserved-in-None c in
    held-unknown c.loop-w.invariant (turn at.In-Some) c.take_word-f.ensures.value c.take_word-f.ensures.command_after (sym c.ready.ensures ∙ c.if-ready.true) (sym c.command_of.ensures ∙ c.in-None.is) (because-is c.unknown.ensures) c.ended-f.ensures

-- the turn, if more words are wanted: a run of them is copied at once
pub gather-f-requires : goal.gather-f-requires
gather-f-requires c =
    let at = goal.at.gather-f-requires c in
    let h = held_word c.loop-w.invariant (turn at.In-Some) c.take_word-f.ensures.value c.take_word-f.ensures.command_after (sym c.ready.ensures ∙ c.if-ready.false) in
    record { words_len_bound = held_fits h c.between.ensures c.split_at.ensures.front; wanted_in_bounds = held_takes h; command_len = h.sound.of-command }

pub loop-w-preserved : goal.loop-w-preserved
loop-w-preserved c =
    let at = goal.at.loop-w-preserved c in
    let h = held_word c.loop-w.invariant (turn at.In-Some) c.take_word-f.ensures.value c.take_word-f.ensures.command_after (sym c.ready.ensures ∙ c.if-ready.false) in
    held-gathered h c.between.ensures c.split_at.ensures.front c.split_at.ensures.back c.gather-f.ensures.value c.gather-f.ensures.command_after

pub returns : goal.returns
returns c = held_end c.loop-w.invariant (search rules) c.into_state.ensures
