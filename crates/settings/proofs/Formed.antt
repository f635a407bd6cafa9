-- Settings start well formed, and each command leaves them so and as long as they were; each clause of "well formed" decides by itself. Assumes nothing.
use Prim.Native.Nat.{ℕ, ◌+◌, ◌*◌, ◌≤◌, ◌<◌}
use mathlib.Core.Path.{◌≡◌, refl, ◌∙◌}
use mathlib.Core.Bool.{true, false, ◌&&◌, and-false, and-eq-true_iff}
use mathlib.Core.List.{List, ◌++◌}
use native.Mathlib.Omega.{arith}
use borrow.Author.Tests.{leb-true, le-leb, lt-leb}
use lib.Dec.{eqb, leb}
use lib.ListN.{length, take, drop, get_or, length-take, length-drop, length-set, length-map, get_or-map}
use lib.Seq.{paste, length-paste, get_or-take, get_or-drop}
use lib.Ieee.{Float, binary32, of_bits}
use lib.Ieee.Scale.{finite}
use Rattle.std.proofs.lemmas.List.Folds.{list_all_at, list_all-append}
use Rattle.ieee.specs.Words.{floats_of, all_finite}
use Rattle.light.specs.declared.Light.{Light}
use Rattle.std.specs.Prelude.{Ok, Err}
use Rattle.verdict.specs.Verdict.{Verdict, done, when_done}
use Rattle.payload.specs.Words.{word_at, float_at, three_at, finite_from}
use Rattle.payload.proofs.Done.{finite_done}
use Rattle.laws.proofs.Bools.{either}
use Rattle.settings.specs.Clauses.{Term, ambient, diffuse, specular, emission, position, term}
use Rattle.settings.specs.Settings.{fresh, mode_verdict, with_mode, matrix_verdict, with_matrix, light_verdict, light_of, with_light, light_ok, lights_ok, settings_ok}
use Rattle.settings.specs.declared.Settings.{Settings}
use Rattle.settings.proofs.All.{all-is, all_take, all_drop, all_set}
use Rattle.settings.proofs.Changes.{mode_value, matrix_number, matrix_words, light_words}

-- ---- well formed, clause by clause
pub record Clauses (s : Settings) : Type 0 where
  pub matrices_finite : all_finite s.matrices ≡ true
  pub mode_small : s.shading_mode ≤ 1
  pub lights_finite : lights_ok s.lights ≡ true

module _ (s : Settings) where
  pub clauses : settings_ok s ≡ true → Clauses s
  unfolding settings_ok
  clauses e =
      let two = (and-eq-true_iff (all_finite s.matrices) (leb s.shading_mode 1 && lights_ok s.lights)).0 e in
      let last = (and-eq-true_iff (leb s.shading_mode 1) (lights_ok s.lights)).0 two.1 in
      record { matrices_finite = two.0; mode_small = leb-true _ _ last.0; lights_finite = last.1 }

  pub formed : Clauses s → settings_ok s ≡ true
  unfolding settings_ok
  formed c = rw (c.matrices_finite, le-leb _ _ c.mode_small, c.lights_finite)

-- ---- one clause decides
light_not : (l : Light) (t : Term) → all_finite (term t l) ≡ false → light_ok l ≡ false
unfolding light_ok
light_not l ambient e = rw e
light_not l diffuse e = rw e (simp and-false)
light_not l specular e = rw e (simp and-false)
light_not l emission e = rw e (simp and-false)
light_not l position e = rw e (simp and-false)

light_is : (l : Light) → ((t : Term) → all_finite (term t l) ≡ true) → light_ok l ≡ true
unfolding light_ok
light_is l h = rw (h ambient, h diffuse, h specular, h emission, h position)

module _ (s : Settings) where
  pub matrix_not_finite : (i : ℕ) (d : Float) → i < length s.matrices → finite (get_or s.matrices i d) ≡ false → settings_ok s ≡ false
  unfolding settings_ok
  matrix_not_finite i d h e = rw (list_all_at finite s.matrices i d h e)

  pub light_not_finite : (k : ℕ) (l : Light) (t : Term) (i : ℕ) (d : Float) → k < length s.lights → i < length (term t (get_or s.lights k l))
      → finite (get_or (term t (get_or s.lights k l)) i d) ≡ false → settings_ok s ≡ false
  unfolding settings_ok
  light_not_finite k l t i d h j e =
      let light : Light = get_or s.lights k l in
      rw (list_all_at light_ok s.lights k l h (light_not light t (list_all_at finite (term t light) i d j e))) (simp and-false)

  pub mode_not_small : 1 < s.shading_mode → settings_ok s ≡ false
  unfolding settings_ok
  mode_not_small h = rw (lt-leb s.shading_mode 1 h) (simp and-false)

  -- and nothing else does: so mode 1 with finite floats is well formed
  pub finite_formed : (d : Float) (dark : Light) → s.shading_mode ≤ 1 → ((i : ℕ) → i < length s.matrices → finite (get_or s.matrices i d) ≡ true)
      → ((k : ℕ) (t : Term) (i : ℕ) → k < length s.lights → i < length (term t (get_or s.lights k dark)) → finite (get_or (term t (get_or s.lights k dark)) i d) ≡ true)
      → settings_ok s ≡ true
  finite_formed d dark m a b =
      formed s (record {
        matrices_finite = all-is finite s.matrices d a;
        mode_small = m;
        lights_finite = all-is light_ok s.lights dark (λ k h. light_is (get_or s.lights k dark) (λ t. all-is finite (term t (get_or s.lights k dark)) d (λ i j. b k t i h j)));
      })

-- ---- the commands
-- what holds of the settings before a command, and of the new ones if it is done, holds after it
changed_keeps : (P : Settings → Type 0) (v : Verdict) (new old : Settings) → P old → (v ≡ done → P new) → P (when_done v new old)
changed_keeps P (Ok u) new old a b = b refl
changed_keeps P (Err e) new old a b = a

pub fresh_ok : settings_ok fresh ≡ true
unfolding settings_ok light_ok of_bits
fresh_ok = refl

-- what holds with one field or the other set holds after command 01
mode_keeps : (P : Settings → Type 0) (s : Settings) (p : List ℕ)
    → P (record { matrices = s.matrices; shading_mode = word_at p 1; lighting_enabled = s.lighting_enabled; lights = s.lights })
    → P (record { matrices = s.matrices; shading_mode = s.shading_mode; lighting_enabled = eqb (word_at p 1) 1; lights = s.lights })
    → P (with_mode s p)
unfolding with_mode
mode_keeps P s p a b = either P (eqb (word_at p 0) 0) _ _ a b

-- the floats of n words that were found finite
words_finite : (p : List ℕ) (i n : ℕ) → finite_from p i n ≡ done → all_finite (take n (floats_of (drop i p))) ≡ true
words_finite p i n e =
    all-is finite (take n (floats_of (drop i p))) (of_bits binary32 0)
    (λ k h.
    let short : k < n = omega (arith, length-take n (floats_of (drop i p))) in
    rw (get_or-take n (floats_of (drop i p)) k (of_bits binary32 0) short, get_or-map (of_bits binary32) (drop i p) k 0, get_or-drop i p k 0) (finite_done p i n (i + k) e (omega arith) (omega arith)))

-- the light that fifteen such words make
light_finite : (p : List ℕ) → finite_from p 2 15 ≡ done → light_ok (light_of p) ≡ true
light_finite p e = light_is (light_of p) new
  where
    at : (k : ℕ) → 2 ≤ k → k < 17 → finite (float_at p k) ≡ true
    at k = finite_done p 2 15 k e

    three : (i : ℕ) → 2 ≤ i → i + 2 < 17 → all_finite (three_at p i) ≡ true
    three i a b = rw (at i a (omega arith), at (i + 1) (omega arith) (omega arith), at (i + 2) (omega arith) (omega arith))

    new : (t : Term) → all_finite (term t (light_of p)) ≡ true
    new ambient = three 2 (omega arith) (omega arith)
    new diffuse = three 5 (omega arith) (omega arith)
    new specular = three 8 (omega arith) (omega arith)
    new emission = three 11 (omega arith) (omega arith)
    new position = three 14 (omega arith) (omega arith)

module _ (s : Settings) (p : List ℕ) (ok : settings_ok s ≡ true) where
  old : Clauses s
  old = clauses s ok

  mode_done : mode_verdict p ≡ done → settings_ok (with_mode s p) ≡ true
  mode_done e =
      mode_keeps (λ r. settings_ok r ≡ true) s p
      (formed _ (record { matrices_finite = old.matrices_finite; mode_small = mode_value p e; lights_finite = old.lights_finite }))
      (formed _ (record { matrices_finite = old.matrices_finite; mode_small = old.mode_small; lights_finite = old.lights_finite }))

  pub mode_ok : settings_ok (when_done (mode_verdict p) (with_mode s p) s) ≡ true
  mode_ok = changed_keeps (λ r. settings_ok r ≡ true) (mode_verdict p) (with_mode s p) s ok mode_done

  matrix_done : matrix_verdict p ≡ done → settings_ok (with_matrix s p) ≡ true
  unfolding with_matrix
  matrix_done e =
      let m : List Float = s.matrices in
      let at : ℕ = word_at p 0 * 16 in
      let pasted : all_finite (paste m at (floats_of (drop 1 p)) 16) ≡ true =
      rw (
        list_all-append finite (take at m ++ take 16 (floats_of (drop 1 p))) (drop (at + 16) m),
        list_all-append finite (take at m) (take 16 (floats_of (drop 1 p))),
        all_take finite at m old.matrices_finite,
        words_finite p 1 16 (matrix_words p e),
        all_drop finite (at + 16) m old.matrices_finite,
      ) in
      formed _ (record { matrices_finite = pasted; mode_small = old.mode_small; lights_finite = old.lights_finite })

  pub matrix_ok : settings_ok (when_done (matrix_verdict p) (with_matrix s p) s) ≡ true
  matrix_ok = changed_keeps (λ r. settings_ok r ≡ true) (matrix_verdict p) (with_matrix s p) s ok matrix_done

  light_done : light_verdict p ≡ done → settings_ok (with_light s p) ≡ true
  unfolding with_light
  light_done e =
      formed _
      (record {
        matrices_finite = old.matrices_finite;
        mode_small = old.mode_small;
        lights_finite = all_set light_ok s.lights (word_at p 0) (light_of p) old.lights_finite (light_finite p (light_words p e));
      })

  pub light_ok_lem : settings_ok (when_done (light_verdict p) (with_light s p) s) ≡ true
  light_ok_lem = changed_keeps (λ r. settings_ok r ≡ true) (light_verdict p) (with_light s p) s ok light_done

-- ---- the lengths of the arrays
pub record Sized (s : Settings) : Type 0 where
  pub cells : length s.matrices ≡ 48
  pub lamps : length s.lights ≡ 8

pub fresh_sized : Sized fresh
fresh_sized = record { cells = refl; lamps = refl }

module _ (s : Settings) (p : List ℕ) (sized : Sized s) where
  pub mode_sized : Sized (when_done (mode_verdict p) (with_mode s p) s)
  mode_sized =
      changed_keeps Sized (mode_verdict p) (with_mode s p) s sized
      (λ e. mode_keeps Sized s p (record { cells = sized.cells; lamps = sized.lamps }) (record { cells = sized.cells; lamps = sized.lamps }))

  matrix_long : length p ≡ 17 → matrix_verdict p ≡ done → Sized (with_matrix s p)
  unfolding with_matrix
  matrix_long h e =
      let number : word_at p 0 ≤ 2 = matrix_number p e in
      record {
        cells = length-paste s.matrices (word_at p 0 * 16) (floats_of (drop 1 p)) 16 (omega (arith, sized.cells)) (omega (arith, length-map (drop 1 p) (of_bits binary32), length-drop 1 p)) ∙ sized.cells;
        lamps = sized.lamps;
      }

  pub matrix_sized : length p ≡ 17 → Sized (when_done (matrix_verdict p) (with_matrix s p) s)
  matrix_sized h = changed_keeps Sized (matrix_verdict p) (with_matrix s p) s sized (matrix_long h)

  light_long : Sized (with_light s p)
  unfolding with_light
  light_long = record { cells = sized.cells; lamps = length-set s.lights (word_at p 0) (light_of p) ∙ sized.lamps }

  pub light_sized : Sized (when_done (light_verdict p) (with_light s p) s)
  light_sized = changed_keeps Sized (light_verdict p) (with_light s p) s sized (λ e. light_long)
