-- Sprites in the demands. Demand 3: a sprite gets the last accepted texture under its number. Demand 2: if no sprite is accepted, the original as it is gives the same as the original with sprites. Assumes nothing.
use Prim.Native.Nat.{ℕ, ◌-◌, ◌/◌, ◌%◌, ◌≤◌}
use Rattle.verdict.specs.Verdict.{Verdict, done}
use Rattle.std.specs.Prelude.{Ok, Err}
use mathlib.Core.Path.{◌≡◌, refl, sym, ap, ◌∙◌}
use mathlib.Core.Bool.{Bool, true, false, cond, ◌&&◌}
use mathlib.Core.Option.{Option, none, some}
use mathlib.Core.List.{List, [], ◌∷◌, ◌++◌, flatten}
use native.Mathlib.Omega.{arith}
use lib.Dec.{eqb, ltb}
use lib.IntN.{ℤ}
use lib.Ieee.{Float}
use lib.ListN.{length, drop, get_or}
use borrow.Author.Tests.{eqb-true, le-ltb}
use Rattle.payload.specs.Words.{word_at}
use Rattle.settings.specs.declared.Settings.{Settings}
use Rattle.store.specs.declared.Kind.{Kind}
use Rattle.store.specs.declared.Kind.TheVariants.{Texture}
use Rattle.store.specs.Uploads.{Whole, find}
use Rattle.flat.specs.Words.{tri_of, in_reach}
use Rattle.sprite.specs.declared.words.Sprite.{Sprite}
use Rattle.sprite.specs.Sprite.{sprite_plane}
use Rattle.sprite.specs.Words.{sprite_verdict, fit_verdict}
use Rattle.command.specs.declared.Draw.TheVariants as draw
use Rattle.command.specs.Command.{command_of}
use Rattle.execute.specs.Paints as paints
use Rattle.execute.specs.Paints.{Picture, paint_on}
use Rattle.execute.specs.Commands.{Look, Told, tells, unknown, wrong_length, told_by, texture_verdict, sprite_paints, sprite_painted, painted_by, told}
use Rattle.execute.proofs.Told.{told_as_lem, command-of_10}
use Rattle.execute.proofs.Painted.{painted-whole, painted_short}
use Rattle.execute.specs.Control as control
use Rattle.run.specs.Framing.{word, header, gather, run}
use Rattle.vpu.specs.Calls.{reset}
use Rattle.claims.specs.Plain.{Past, as_past, plain_start}
use Rattle.claims.specs.Runs.{after_all, sizes}
use Rattle.claims.specs.Asked.{Copies}
use Rattle.claims.specs.Original.{Vpu, new, refuses, copies, arm, ended, marked, waiting, max_command_words, execute, await, pump, push, pushes}
use Rattle.claims.specs.Domain.{InDomain, RefusedTen, NoSprites, calls, copied}
use Rattle.claims.proofs.Reasons.{fit_so}
use Rattle.claims.proofs.Asked.{Other, done-other, differs}
use Rattle.claims.proofs.Refused.{sprite-refused}
use Rattle.claims.proofs.Demand2.{demand2}

-- ---- demand 3
found_copies : (s : Settings) (p : List ℕ) (o : Option Whole) → Copies o p (tells (sprite_verdict p o) s (sprite_paints p o))
unfolding sprite_verdict
found_copies s p none = record { wanting = λ e. refl; only = λ i e. refl; gets = refl }
found_copies s p (some u) = record {
  wanting = λ e. let z : ◌≡◌ {A = ℕ} 0 1 = cc in absurd (omega arith);
  only = λ i e. absurd (fit_so Other done-other (λ j. differs j (λ d. omega arith)) (λ j. differs j (λ d. omega arith)) (differs 0 (λ d. omega arith)) p u.wide u.high i e);
  gets = refl;
}

pub draw_10 : (size : Kind → ℕ) (h : Past) (s : Settings) (p : List ℕ) → length p ≡ 7 → Copies (find (word_at p 0) h.textures) p (told ((as_past size).look h) s 0x10 p)
unfolding sprite_painted
draw_10 size h s p n =
    rw (told_as_lem ((as_past size).look h) s 0x10 p command-of_10, painted-whole ((as_past size).look h) s draw.Sprite p n) (found_copies s p (find (word_at p 0) h.textures))

-- a wrong length comes before all else
pub sprite_short : (look : Look) (s : Settings) (p : List ℕ) → (length p ≡ 7 → ⊥) → told look s 0x10 p ≡ tells wrong_length s []
sprite_short look s p n = told_as_lem look s 0x10 p command-of_10 ∙ ap (told_by s) (painted_short look s draw.Sprite p n)

-- both depths stay
pub sprite-depths : (s : Sprite) (texels : List ℕ) (a : Picture) → ((paint_on (paints.sprite s texels) a).depth ≡ a.depth) × ((paint_on (paints.sprite s texels) a).depth_f ≡ a.depth_f)
unfolding paint_on
sprite-depths s texels a = (refl, refl)

-- and none is tested: the plane afterwards is the same whatever the depths are
pub sprite_blind : (s : Sprite) (texels : List ℕ) (a b : Picture) → a.plane ≡ b.plane → (paint_on (paints.sprite s texels) a).plane ≡ (paint_on (paints.sprite s texels) b).plane
unfolding paint_on
sprite_blind s texels a b e = ap (sprite_plane s texels) e

-- ---- demand 2: a command 10 that is refused is refused by the original too
execute_same : (v : Vpu) → (get_or v.command 0 0 ≡ 0x10 → (told v.uploads v.settings 0x10 (drop 1 v.command)).verdict ≡ done → ⊥) → execute refuses v ≡ execute copies v
unfolding execute arm
execute_same v h = go (eqb (get_or v.command 0 0) 0x10) refl
  where
    p : List ℕ
    p = drop 1 v.command

    others : Told
    others = cond (eqb (get_or v.command 0 0) 0x12 && eqb (length p) 11) (tells done v.settings (paints.flat (tri_of p) ∷ [])) (told v.uploads v.settings (get_or v.command 0 0) p)

    by : (w : Verdict) → (told v.uploads v.settings 0x10 p).verdict ≡ w → get_or v.command 0 0 ≡ 0x10
        → ended v (tells unknown v.settings []) ≡ ended v (told v.uploads v.settings 0x10 p)
    by (Ok u) e o = absurd (h o e)
    by (Err why) e o = rw (sprite-refused v.uploads v.settings p {r = why.reason} {i = why.index} e)

    go : (b : Bool) → eqb (get_or v.command 0 0) 0x10 ≡ b
        → ended v (cond b (tells unknown v.settings []) others) ≡ ended v (cond b (told v.uploads v.settings 0x10 p) others)
    go true e = by (told v.uploads v.settings 0x10 p).verdict refl (eqb-true (get_or v.command 0 0) 0x10 e)
    go false e = refl

await_same : (v : Vpu) (command : List ℕ) (left : ℕ) → (left ≡ 0 → get_or command 0 0 ≡ 0x10 → (told v.uploads v.settings 0x10 (drop 1 command)).verdict ≡ done → ⊥)
    → await refuses v command left ≡ await copies v command left
unfolding await
await_same v command left h = go (eqb left 0) refl
  where
    go : (b : Bool) → eqb left 0 ≡ b → cond b (execute refuses (waiting v command left)) (waiting v command left) ≡ cond b (execute copies (waiting v command left)) (waiting v command left)
    go true e = execute_same (waiting v command left) (h (eqb-true left 0 e))
    go false e = refl

-- without words it is always refused
never_empty : (v : Vpu) → (told v.uploads v.settings 0x10 []).verdict ≡ done → ⊥
never_empty v e =
    let w : wrong_length ≡ done = sym (ap (λ (t : Told). t.verdict) (sprite_short v.uploads v.settings [] (λ n. omega arith))) ∙ e in
    let z : ◌≡◌ {A = ℕ} 0 1 = cc in
    omega arith

push_same : (v : Vpu) (w : ℕ) → RefusedTen v w → push refuses v w ≡ push copies v w
unfolding push
push_same v w h = go v.expected refl
  where
    go : (o : Option ℕ) → v.expected ≡ o → pump refuses v w o ≡ pump copies v w o
    go none e = ap (λ (x : Vpu). cond (eqb (w / 16777216) 0) (marked v 4) (cond (ltb max_command_words (w % 16777216)) (marked v 8) x)) (await_same v (w / 16777216 ∷ []) (w % 16777216) (λ z o d. never_empty v d))
    go (some n) e = await_same v (v.command ++ (w ∷ [])) (n - 1) (λ z. h n e (omega arith))

pushes_same : (ws : List ℕ) (v : Vpu) → NoSprites v ws → pushes refuses v ws ≡ pushes copies v ws
unfolding pushes NoSprites
pushes_same [] v h = refl
pushes_same (w ∷ ws) v h = ap (λ (x : Vpu). pushes refuses x ws) (push_same v w h.0) ∙ pushes_same ws (push copies v w) h.1

-- so the original as it is: P, D, F, C, T and M are lent for a reset that is answered 0
pub demand2_rust : (P : List ℕ) (D : List ℤ) (F : List Float) (C T M : List ℕ) → (reset P D F C T M).answer ≡ 0 → (wss : List (List ℕ)) → InDomain (sizes T M) (flatten wss) → NoSprites new (flatten wss)
    → ((after_all (reset P D F C T M).machine (calls wss)).picture ≡ (pushes refuses new (flatten wss)).picture)
    × ((after_all (reset P D F C T M).machine (calls wss)).control.notes.status ≡ (pushes refuses new (flatten wss)).status)
demand2_rust P D F C T M done wss d h = rw (pushes_same (flatten wss) new h) (demand2 P D F C T M done wss d)

-- a sprite of one texel is accepted, and the original sets bit 3; one of two texels is refused by both
pub sprite_differs : (size : Kind → ℕ) → 1 ≤ size Texture → ((pushes refuses new (copied 1)).status ≡ 8) × ((run (as_past size) plain_start (copied 1)).control.notes.status ≡ 0)
unfolding pushes push await execute arm run word header gather control.execute told command_of texture_verdict painted_by sprite_painted sprite_verdict fit_verdict in_reach
sprite_differs size h = (refl, rw (le-ltb (size Texture) 1 h))

pub sprite_alike : (size : Kind → ℕ) → 1 ≤ size Texture → ((pushes refuses new (copied 2)).status ≡ 8) × ((run (as_past size) plain_start (copied 2)).control.notes.status ≡ 8)
unfolding pushes push await execute arm run word header gather control.execute told command_of texture_verdict painted_by sprite_painted sprite_verdict fit_verdict in_reach
sprite_alike size h = (refl, rw (le-ltb (size Texture) 1 h))
