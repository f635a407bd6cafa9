-- A model draw is its records as so many 19s, one after the other: `model_records`, over any way of keeping uploads; on the plain machine each gets the last texture under its own number, and every model held there has its records whole. Assumes nothing.
use Prim.Native.Nat.{ℕ, zero, suc, ◌+◌, ◌-◌, ◌*◌, ◌≤◌, ◌<◌}
use mathlib.Core.Path.{◌≡◌, refl, ap, ◌∙◌}
use mathlib.Core.Bool.{Bool, true, false, cond}
use mathlib.Core.Option.{some}
use mathlib.Core.List.{List, [], ◌∷◌, map, map-append}
use native.Mathlib.Numerals.{add-one}
use native.Mathlib.Omega.{arith}
use lib.Dec.{eqb}
use lib.ListN.{length, take, drop, length-append, length-drop}
use lib.Seq.{drop-drop, length-take-le}
use Rattle.payload.specs.Words.{word_at}
use Rattle.settings.specs.declared.Settings.{Settings}
use Rattle.store.specs.declared.Kind.{Kind}
use Rattle.store.specs.declared.Kind.TheVariants.{Texture, Model}
use Rattle.store.specs.Uploads.{Whole, find}
use Rattle.decide.specs.Verdicts.{textured_verdict, records_verdict}
use Rattle.draw.specs.Draws.{textured_strokes, records_strokes, has_in}
use Rattle.execute.specs.Paints.{stroked}
use Rattle.command.specs.declared.Draw.TheVariants as draw
use Rattle.execute.specs.Commands.{Look, Told, tells, told_by, textured_painted, told}
use Rattle.execute.proofs.Told.{told_as_lem, command-of_19}
use Rattle.execute.proofs.Painted.{painted-whole}
use Rattle.run.specs.Framing.{run}
use Rattle.claims.specs.Alike.{Passing, Alike}
use Rattle.claims.specs.Asked.{Draws, record_at, first_refused, all_painted, record_told, Records}
use Rattle.claims.specs.Plain.{Past, history, accepted, as_past, plain_start}
use Rattle.claims.proofs.Alike.{run_same}
use Rattle.claims.proofs.Refused.{model_exact}
use Rattle.claims.proofs.Asked.{draw_19}

-- ---- what a 19 of right length says
told_19 : (look : Look) (s : Settings) (q : List ℕ) → length q ≡ 29
    → told look s 0x19 q ≡ tells (textured_verdict q true (has_in (look Texture) (word_at q 0)) s.matrices) s (map stroked (textured_strokes s q true (look Texture (word_at q 0))))
unfolding textured_painted
told_19 look s q n = told_as_lem look s 0x19 q command-of_19 ∙ ap (told_by s) (painted-whole look s (draw.Textured true) q n)

-- ---- records of a model
module _ (look : Look) (s : Settings) (mode : ℕ) (words : List ℕ) where
  record_whole : (i : ℕ) → 28 * i + 28 ≤ length words → length (record_at mode words i) ≡ 29
  record_whole i h =
      let rest : length (drop 1 (drop (28 * i) words)) ≡ length words - 28 * i - 1 = length-drop 1 (drop (28 * i) words) ∙ ap (λ (n : ℕ). n - 1) (length-drop (28 * i) words) in
      let all : length (take 27 (drop 1 (drop (28 * i) words))) ≡ 27 = length-take-le 27 (drop 1 (drop (28 * i) words)) (omega arith) in
      ap (λ (n : ℕ). suc (suc n)) all

  abbrev tell : ℕ → Told
  tell i = told look s 0x19 (record_at mode words i)

  next : (i : ℕ) → drop 28 (drop (28 * i) words) ≡ drop (28 * suc i) words
  next i =
      let sum : 28 * i + 28 ≡ 28 * suc i = omega arith in
      drop-drop 28 (28 * i) words ∙ ap (λ (n : ℕ). drop n words) sum

  verdicts : (n i : ℕ) → 28 * (i + n) ≤ length words → records_verdict mode (has_in (look Texture)) s.matrices n (drop (28 * i) words) ≡ first_refused tell i n
  unfolding records_verdict
  verdicts zero i h = refl
  verdicts (suc n) i h =
      let here : (tell i).verdict ≡ textured_verdict (record_at mode words i) true (has_in (look Texture) (word_at (record_at mode words i) 0)) s.matrices =
      ap (λ (t : Told). t.verdict) (told_19 look s (record_at mode words i) (record_whole i (omega arith))) in
      let more : records_verdict mode (has_in (look Texture)) s.matrices n (drop 28 (drop (28 * i) words)) ≡ first_refused tell (suc i) n = rw (next i) (verdicts n (suc i) (omega arith)) in
      rw (more, ← here)

  strokes : (n i : ℕ) → 28 * (i + n) ≤ length words → map stroked (records_strokes s mode (look Texture) n (drop (28 * i) words)) ≡ all_painted tell i n
  unfolding records_strokes
  strokes zero i h = refl
  strokes (suc n) i h =
      let here : (tell i).paints ≡ map stroked (textured_strokes s (record_at mode words i) true (look Texture (word_at (record_at mode words i) 0))) =
      ap (λ (t : Told). t.paints) (told_19 look s (record_at mode words i) (record_whole i (omega arith))) in
      let more : map stroked (records_strokes s mode (look Texture) n (drop 28 (drop (28 * i) words))) ≡ all_painted tell (suc i) n = rw (next i) (strokes n (suc i) (omega arith)) in
      map-append stroked (textured_strokes s (record_at mode words i) true (look Texture (word_at (record_at mode words i) 0))) (records_strokes s mode (look Texture) n (drop 28 (drop (28 * i) words)))
      ∙ rw (more, ← here)

-- ---- 1B with two words, a mode up to 2 and a model that is held under its number
pub model_records : (look : Look) (s : Settings) (p : List ℕ) → length p ≡ 2 → (u : Whole) → word_at p 1 ≤ 2 → look Model (word_at p 0) ≡ some u → Passing (record { kind = Model; whole = u })
    → Records look s p u (told look s 0x1b p)
model_records look s p n u mode e ok =
    let long : length u.words ≡ 28 * u.wide = ok.size in
    record {
      whole = λ i h. record_whole look s (word_at p 1) u.words i (omega arith);
      is = model_exact look s p n u mode e
          ∙ (λ i. tells (verdicts look s (word_at p 1) u.words u.wide 0 (omega arith) i) s (strokes look s (word_at p 1) u.words u.wide 0 (omega arith) i));
    }

-- ---- on the plain machine
-- each record gets the last texture accepted under its own number, and is refused for want of one exactly if there is none
pub draw_record : (size : Kind → ℕ) (h : Past) (s : Settings) (p : List ℕ) → length p ≡ 2 → (u : Whole) → word_at p 1 ≤ 2 → find (word_at p 0) h.models ≡ some u → Passing (record { kind = Model; whole = u })
    → Records ((as_past size).look h) s p u (told ((as_past size).look h) s 0x1b p)
    × ((i : ℕ) → i < u.wide
    → Draws (find (word_at (record_at (word_at p 1) u.words i) 0) h.textures) s (record_at (word_at p 1) u.words i) true (record_told ((as_past size).look h) s p u i))
draw_record size h s p n u mode e ok =
    let r = model_records ((as_past size).look h) s p n u mode e ok in
    (r, λ i l. draw_19 size h s (record_at (word_at p 1) u.words i) mode (r.whole i l))

-- whatever words came since a reset, what is held passed its checks
abbrev Each : Kind → List Whole → Type 0
Each k [] = Unit {0}
Each k (u ∷ us) = Passing (record { kind = k; whole = u }) × Each k us

record Sure (x y : Past) : Type 0 where
  same : x ≡ y
  textures : Each Texture y.textures
  models : Each Model y.models

put_sure : (x y : Past) (k : Kind) (u : Whole) → Sure x y → Passing (record { kind = k; whole = u }) → Sure (accepted x k u) (accepted y k u)
put_sure x y Texture u r p = record { same = ap (λ (h : Past). accepted h Texture u) r.same; textures = (p, r.textures); models = r.models }
put_sure x y Model u r p = record { same = ap (λ (h : Past). accepted h Model u) r.same; textures = r.textures; models = (p, r.models) }

sure : (size : Kind → ℕ) → Alike (as_past size) (as_past size) Sure
sure size = record {
  look_same = λ x y r. ap (λ (h : Past). (as_past size).look h) r.same;
  room_same = λ x y l r. ap (λ (h : Past). (as_past size).room h l) r.same;
  put-kept = λ x y l r p f. put_sure x y l.kind l.whole r p;
  payload_same = λ x y r. ap (λ (h : Past). h.payload) r.same;
  add_kept = λ w x y r l. record { same = ap (λ (h : Past). (as_past size).add w h) r.same; textures = r.textures; models = r.models };
  add-length = λ w h. length-append h.payload (w ∷ []) ∙ add-one (length h.payload);
  clear_kept = λ x y r. record { same = ap (λ (h : Past). (as_past size).clear h) r.same; textures = r.textures; models = r.models };
  clear-length = λ h. refl;
}

found_each : (k : Kind) (n : ℕ) (us : List Whole) (u : Whole) → find n us ≡ some u → Each k us → Passing (record { kind = k; whole = u })
found_each k n [] u e a = let z : ◌≡◌ {A = ℕ} 0 1 = cc in absurd (omega arith)
found_each k n (v ∷ us) u e a = go (eqb v.number n) e (λ f. found_each k n us u f a.1)
  where
    go : (b : Bool) → cond b (some v) (find n us) ≡ some u → (find n us ≡ some u → Passing (record { kind = k; whole = u })) → Passing (record { kind = k; whole = u })
    go true f rest = let is : v ≡ u = cc in rw is at a.0
    go false f rest = rest f

pub held_passing : (size : Kind → ℕ) (ws : List ℕ) (k : Kind) (n : ℕ) (u : Whole) → find n (history (run (as_past size) plain_start ws).control.box k) ≡ some u
    → Passing (record { kind = k; whole = u })
held_passing size ws k n u e = go k e
  where
    all : Sure (run (as_past size) plain_start ws).control.box (run (as_past size) plain_start ws).control.box
    all =
        (run_same (sure size) ws plain_start plain_start
        (record {
          control = record { settings = refl; notes = refl; opcode = refl; wanted = refl; box = record { same = refl; textures = tt; models = tt }; bound = omega arith; idle = λ y. refl };
          picture = refl;
        })
        ).control.box

    go : (k : Kind) → find n (history (run (as_past size) plain_start ws).control.box k) ≡ some u → Passing (record { kind = k; whole = u })
    go Texture f = found_each Texture n (run (as_past size) plain_start ws).control.box.textures u f all.textures
    go Model f = found_each Model n (run (as_past size) plain_start ws).control.box.models u f all.models
