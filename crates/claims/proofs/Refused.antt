-- A refused command changes status only, clear flags and model draws aside; those change the picture too, and nothing else. Over any way of keeping uploads. Assumes nothing.
use Prim.Native.Nat.{ℕ, ◌≤◌, ◌<◌}
use Rattle.verdict.specs.Verdict.{Verdict, done, passed, refused}
use Rattle.verdict.specs.declared.Refused.{Refused}
use Rattle.std.specs.Prelude.{Some, None, Result, Ok, Err, ⊤}
use Rattle.std.specs.Prelude as std
use mathlib.Core.Path.{◌≡◌, refl, sym, ap, ◌∙◌}
use mathlib.Core.Bool.{Bool, cond}
use mathlib.Core.Option.{Option, none, some}
use mathlib.Core.List.{List, [], ◌∷◌, map}
use native.Mathlib.Omega.{arith}
use lib.Dec.{eqb, leb}
use lib.ListN.{length}
use borrow.Author.Tests.{le-leb, lt-leb}
use Rattle.verdict.specs.declared.Reason.{Reason}
use Rattle.verdict.specs.declared.Reason.TheVariants.{WrongLength, OutOfRange, NotHeld}
use Rattle.payload.specs.Words.{when_done, and_then, word_at, at_most}
use Rattle.settings.specs.declared.Settings.{Settings}
use Rattle.settings.specs.Settings.{mode_verdict, with_mode, matrix_verdict, with_matrix, light_verdict, with_light}
use Rattle.store.specs.Uploads.{Whole, is_some}
use Rattle.store.specs.declared.Kind.{Kind}
use Rattle.store.specs.declared.Kind.TheVariants.{Texture, Model}
use Rattle.store.specs.declared.NoRoom.{NoRoom}
use Rattle.store.specs.Slots.{is_fits}
use Rattle.flat.specs.Words.{flat_verdict, tri_of}
use Rattle.sprite.specs.Words.{fit_verdict, sprite_verdict}
use Rattle.decide.specs.Verdicts.{records_verdict, checked_verdict, textured_verdict, transformed_verdict}
use Rattle.judge.specs.Judge.{model_verdict}
use Rattle.draw.specs.Draws.{transformed_strokes, held_strokes, textured_strokes, records_strokes, model_strokes, has_in}
use Rattle.execute.specs.Paints as paints
use Rattle.execute.specs.Paints.{paints_on}
use Rattle.command.specs.declared.Setting.{Setting}
use Rattle.command.specs.declared.Setting.TheVariants as setting
use Rattle.command.specs.declared.Draw.{Draw}
use Rattle.command.specs.declared.Draw.TheVariants as draw
use Rattle.command.specs.declared.Command.{Command}
use Rattle.command.specs.declared.Command.TheVariants.{Sets, Loads, Paints}
use Rattle.command.specs.Command.{command_of, setting_words, draw_words}
use Rattle.execute.specs.Commands.{Look, Load, Told, tells, Painted, blank, wrong_length, verdict_by, value_or, set_by, settings_after, texture_verdict, count_verdict, loading, texture_in, model_in, clear_paints, clear_painted, sprite_paints, sprite_painted, flat_painted, transformed_painted, textured_painted, model_painted, drawn_by, painted_by, told_by, told_as, told}
use Rattle.execute.specs.Control.{Keep, Control, Seen, room_verdict, verdict_of, kept_of, execute, executed}
use Rattle.execute.specs.Kept.{Box, box, as_box}
use Rattle.execute.proofs.Told.{told_as_lem, command-of_04, command-of_10, command-of_1b, clear-opcode, model_opcode}
use Rattle.execute.proofs.Painted.{painted-whole, painted_short}
use Rattle.laws.proofs.Bools.{either}
use Rattle.claims.specs.Status.{told_in, verdict_in, Left}

-- refused, for whatever reason
abbrev Refusal : Verdict → Type 0
Refusal (Ok u) = ⊥
Refusal (Err e) = Unit {0}

refusal : (v : Verdict) {r : Reason} {i : ℕ} → v ≡ refused r i → Refusal v
refusal (Ok u) e = let z : ◌≡◌ {A = ℕ} 0 1 = cc in absurd (omega arith)
refusal (Err why) e = tt

when-refused : {A : Type 0} (v : Verdict) (a b : A) → Refusal v → when_done v a b ≡ b
when-refused (Ok u) a b h = absurd h
when-refused (Err e) a b h = refl

-- what a refused command says: the settings as they were, nothing to keep, and nothing to paint unless it is a clear or a model draw. One that is to keep an upload leaves the settings too, and paints nothing
record Quiet (s : Settings) (c : std.Option Command) (t : Told) : Type 0 where
  settings : Refusal t.verdict → t.settings ≡ s
  nothing : Refusal t.verdict → t.load ≡ none
  paints : (c ≡ Some (Paints draw.Clear) → ⊥) → (c ≡ Some (Paints draw.Model) → ⊥) → Refusal t.verdict → t.paints ≡ []
  loading-settings : (l : Load) → t.load ≡ some l → t.settings ≡ s
  loading-paints : (l : Load) → t.load ≡ some l → t.paints ≡ []

not_some : {A : Type 0} {a : A} → none ≡ some a → ⊥
not_some e = let z : ◌≡◌ {A = ℕ} 0 1 = cc in omega arith

module _ (s : Settings) (p : List ℕ) where
  -- ---- what sets stores nothing if it is refused
  abbrev Changes : Result Settings Refused → Type 0
  Changes c = Refusal (verdict_by c) → value_or s c ≡ s

  passed_quiet : (v : Verdict) (t : Settings) → Changes (passed v t)
  passed_quiet (Ok u) t h = absurd h
  passed_quiet (Err e) t h = refl

  by_quiet : (x : Setting) → Changes (set_by s x p)
  by_quiet setting.Mode = passed_quiet (mode_verdict p) (with_mode s p)
  by_quiet setting.Matrix = passed_quiet (matrix_verdict p) (with_matrix s p)
  by_quiet setting.Light = passed_quiet (light_verdict p) (with_light s p)

  set_quiet : (x : Setting) → Changes (settings_after s x p)
  unfolding settings_after
  set_quiet x = either Changes (eqb (length p) (setting_words x)) (set_by s x p) (refused WrongLength 0) (by_quiet x) (λ h. refl)

  -- ---- what loads
  load_quiet : (k : Kind) (v : Verdict) (l : Load) → Quiet s (Some (Loads k)) (loading v s l)
  load_quiet k v l = record { settings = λ h. refl; nothing = λ h. when-refused v (some l) none h; paints = λ a b h. refl; loading-settings = λ k e. refl; loading-paints = λ k e. refl }

  -- ---- what paints
  textured_none : (normal : Bool) (o : Option Whole) → Refusal (textured_verdict p normal (is_some o) s.matrices) → textured_strokes s p normal o ≡ []
  unfolding textured_verdict textured_strokes held_strokes
  textured_none normal none h = refl
  textured_none normal (some u) h = go (at_most p 1 2) h
    where
      go : (v : Verdict) → Refusal (and_then v (and_then done (checked_verdict p normal s.matrices))) → when_done v (held_strokes s p normal u.wide u.high u.words) [] ≡ []
      go (Ok u) h = when-refused (checked_verdict p normal s.matrices) _ [] h
      go (Err e) h = refl

  sprite-none : (o : Option Whole) → Refusal (sprite_verdict p o) → sprite_paints p o ≡ []
  unfolding sprite_verdict sprite_paints
  sprite-none none h = refl
  sprite-none (some u) h = when-refused (fit_verdict p u.wide u.high) _ [] h

  drawn_quiet : (look : Look) (d : Draw) → (Some (Paints d) ≡ Some (Paints draw.Clear) → ⊥) → (Some (Paints d) ≡ Some (Paints draw.Model) → ⊥) → Refusal (drawn_by look s d p).verdict → (drawn_by look s d p).paints ≡ []
  unfolding sprite_painted flat_painted transformed_painted textured_painted transformed_strokes
  drawn_quiet look draw.Clear n m h = absurd (n refl)
  drawn_quiet look draw.Sprite n m h = sprite-none _ h
  drawn_quiet look draw.Flat n m h = when-refused (flat_verdict p) (paints.flat (tri_of p) ∷ []) [] h
  drawn_quiet look (draw.Transformed normal) n m h = ap (map paints.stroked) (when-refused (transformed_verdict p normal s.matrices) _ [] h)
  drawn_quiet look (draw.Textured normal) n m h = ap (map paints.stroked) (textured_none normal _ h)
  drawn_quiet look draw.Model n m h = absurd (m refl)

  abbrev Blank : Painted → Type 0
  Blank a = Refusal a.verdict → a.paints ≡ []

  painted_quiet : (look : Look) (d : Draw) → (Some (Paints d) ≡ Some (Paints draw.Clear) → ⊥) → (Some (Paints d) ≡ Some (Paints draw.Model) → ⊥) → Blank (painted_by look s d p)
  unfolding painted_by
  painted_quiet look d n m = either Blank (eqb (length p) (draw_words d)) (drawn_by look s d p) (blank wrong_length) (drawn_quiet look d n m) (λ h. refl)

  as_quiet : (look : Look) (c : std.Option Command) → Quiet s c (told_as look s c p)
  as_quiet look (Some (Sets x)) = record { settings = set_quiet x; nothing = λ h. refl; paints = λ n m h. refl; loading-settings = λ l e. absurd (not_some e); loading-paints = λ l e. refl }
  as_quiet look (Some (Loads Texture)) = load_quiet Texture (texture_verdict p) (texture_in p)
  as_quiet look (Some (Loads Model)) = load_quiet Model (count_verdict p) (model_in p)
  as_quiet look (Some (Paints d)) = record { settings = λ h. refl; nothing = λ h. refl; paints = painted_quiet look d; loading-settings = λ l e. refl; loading-paints = λ l e. absurd (not_some e) }
  as_quiet look None = record { settings = λ h. refl; nothing = λ h. refl; paints = λ n m h. refl; loading-settings = λ l e. refl; loading-paints = λ l e. refl }

  told_quiet : (look : Look) (op : ℕ) → Quiet s (command_of op) (told look s op p)
  told_quiet look op = rw (told_as_lem look s op p refl) (as_quiet look (command_of op))

-- a sprite that is refused says that, and no more
pub sprite-refused : (look : Look) (s : Settings) (p : List ℕ) {r : Reason} {i : ℕ} → (told look s 0x10 p).verdict ≡ refused r i → told look s 0x10 p ≡ tells (refused r i) s []
sprite-refused look s p {r} {i} e =
    let a = painted_by look s draw.Sprite p in
    let is : told look s 0x10 p ≡ told_by s a = told_as_lem look s 0x10 p command-of_10 in
    let v : a.verdict ≡ refused r i = sym (ap (λ (t : Told). t.verdict) is) ∙ e in
    let blank : a.paints ≡ [] = painted_quiet s p look draw.Sprite (λ q. let z : ◌≡◌ {A = ℕ} 0 1 = cc in omega arith) (λ q. let z : ◌≡◌ {A = ℕ} 0 1 = cc in omega arith) (refusal a.verdict v) in
    is ∙ rw (v, blank)

-- ---- every refused command, those without room too
module _ {X : Type 0} (K : Keep X) (c : Control X) (r : Reason) (i : ℕ) (e : verdict_in K c ≡ refused r i) where
  record Parts (o : Option Load) : Type 0 where
    same : (told_in K c).settings ≡ c.settings
    held : kept_of K c.box o ≡ c.box
    blank : (c.opcode ≡ 0x04 → ⊥) → (c.opcode ≡ 0x1b → ⊥) → (told_in K c).paints ≡ []

  parts : (o : Option Load) → (told_in K c).load ≡ o → verdict_of K c.box (told_in K c) o ≡ refused r i → Parts o
  parts none a b =
      let q = told_quiet c.settings (K.payload c.box) (K.look c.box) c.opcode in
      let h = refusal (told_in K c).verdict b in
      record { same = q.settings h; held = refl; blank = λ n m. q.paints (λ f. n (clear-opcode c.opcode f)) (λ f. m (model_opcode c.opcode f)) h }
  parts (some l) a b =
      let q = told_quiet c.settings (K.payload c.box) (K.look c.box) c.opcode in
      record { same = q.loading-settings l a; held = room (K.room c.box l) (refusal _ b); blank = λ n m. q.loading-paints l a }
    where
      room : (x : Result ⊤ NoRoom) → Refusal (room_verdict x) → cond (is_fits x) (K.put c.box l) c.box ≡ c.box
      room (Ok u) h = absurd h
      room (Err why) h = refl

  -- clear flags and model draws among them: settings and uploads stay
  pub refused_leaves : Left K c r
  unfolding execute
  refused_leaves =
      let q = parts (told_in K c).load refl e in
      record { settings = q.same; uploads = ap (λ (x : X). K.clear x) q.held; status = rw e; opcode = refl; wanted = refl }

  -- and every other one paints nothing (rule 3.3)
  module _ (not-clear : c.opcode ≡ 0x04 → ⊥) (not-model : c.opcode ≡ 0x1b → ⊥) where
    pub refused-paints : (execute K c).paints ≡ []
    unfolding execute
    refused-paints = (parts (told_in K c).load refl e).blank not-clear not-model

    pub refused-picture : (m : Seen X) → m.control ≡ c → (executed K m).picture ≡ m.picture
    unfolding paints_on
    refused-picture m f = rw (f, refused-paints)

-- on the machine both stores, slots and words, and the command area are as they were
pub refused_stores : (c : Control Box) (r : Reason) (i : ℕ) → verdict_in as_box c ≡ refused r i
    → (execute as_box c).control.box ≡ box c.box.textures c.box.models c.box.area 0
refused_stores c r i e = (refused_leaves as_box c r i e).uploads

-- ---- the two that paint though refused, exactly
-- 04 (rule 3.6): flags above 3 are refused and still clear; with a wrong length nothing is cleared
pub clear_exact : (look : Look) (s : Settings) (p : List ℕ) → length p ≡ 3 → told look s 0x04 p ≡ tells (cond (leb (word_at p 0) 3) done (refused OutOfRange 0)) s (clear_paints p)
unfolding clear_painted
clear_exact look s p n = told_as_lem look s 0x04 p command-of_04 ∙ ap (told_by s) (painted-whole look s draw.Clear p n)

pub clear_short : (look : Look) (s : Settings) (p : List ℕ) → (length p ≡ 3 → ⊥) → told look s 0x04 p ≡ tells wrong_length s []
clear_short look s p n = told_as_lem look s 0x04 p command-of_04 ∙ ap (told_by s) (painted_short look s draw.Clear p n)

-- 1B: with a wrong length, with a mode above 2 or without its model nothing is drawn; else its triangles that are not refused are
module _ (look : Look) (s : Settings) (p : List ℕ) where
  pub model_short : (length p ≡ 2 → ⊥) → told look s 0x1b p ≡ tells wrong_length s []
  model_short n = told_as_lem look s 0x1b p command-of_1b ∙ ap (told_by s) (painted_short look s draw.Model p n)

  -- what it says, by the model that is held under its number
  abbrev by_model : Option Whole → Told
  by_model o = tells (model_verdict p (has_in (look Texture)) s.matrices o) s (map paints.stroked (model_strokes s p (look Texture) o))

  mode_refused : 2 < word_at p 1 → (o : Option Whole) → by_model o ≡ tells (refused OutOfRange 1) s []
  unfolding model_verdict model_strokes
  mode_refused h none = rw (lt-leb (word_at p 1) 2 h)
  mode_refused h (some u) = rw (lt-leb (word_at p 1) 2 h)

  module _ (n : length p ≡ 2) where
    model_told : told look s 0x1b p ≡ by_model (look Model (word_at p 0))
    unfolding model_painted
    model_told = told_as_lem look s 0x1b p command-of_1b ∙ ap (told_by s) (painted-whole look s draw.Model p n)

    pub model_mode : 2 < word_at p 1 → told look s 0x1b p ≡ tells (refused OutOfRange 1) s []
    model_mode h = model_told ∙ mode_refused h (look Model (word_at p 0))

    pub model_none : word_at p 1 ≤ 2 → look Model (word_at p 0) ≡ none → told look s 0x1b p ≡ tells (refused NotHeld 0) s []
    unfolding model_verdict model_strokes
    model_none h e = model_told ∙ rw (e, le-leb (word_at p 1) 2 h)

    pub model_exact : (u : Whole) → word_at p 1 ≤ 2 → look Model (word_at p 0) ≡ some u
        → told look s 0x1b p
        ≡ tells (records_verdict (word_at p 1) (has_in (look Texture)) s.matrices u.wide u.words) s
        (map paints.stroked (records_strokes s (word_at p 1) (look Texture) u.wide u.words))
    unfolding model_verdict model_strokes
    model_exact u h e = model_told ∙ rw (e, le-leb (word_at p 1) 2 h)
