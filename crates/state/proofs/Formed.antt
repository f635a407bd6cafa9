-- "Well formed" by its four parts: what each says, that each one missing decides, and that the fresh state has all of them. Assumes nothing.
use Prim.Native.Nat.{ℕ, zero, suc, ◌+◌, ◌≤◌, ◌<◌}
use mathlib.Core.Path.{◌≡◌, refl, sym, ◌∙◌}
use mathlib.Core.Bool.{Bool, true, false, ◌&&◌, and-false, or-false}
use native.Mathlib.Omega.{arith}
use borrow.Author.Tests.{leb-true, ltb-true, eqb-true, le-leb, lt-ltb, ne_eqb}
use lib.Dec.{eqb, leb, ltb}
use lib.ListN.{replicate}
use Rattle.settings.specs.Settings.{settings_ok}
use Rattle.settings.proofs.Formed.{fresh_ok}
use Rattle.store.specs.Slots.{no_slot, slots_ok}
use Rattle.store.specs.declared.Kind.{Kind}
use Rattle.store.specs.declared.Kind.TheVariants.{Texture, Model}
use Rattle.laws.proofs.Bools.{and_left, and_right}
use Rattle.state.specs.State.{most_payload, fresh, begun_ok, well_formed}
use Rattle.state.specs.declared.State.{State}

-- ---- the command begun
module _ (g w : ℕ) where
  pub begun-none : begun_ok 0 g w ≡ (eqb g 0 && eqb w 0)
  unfolding begun_ok
  begun-none = or-false (eqb g 0 && eqb w 0)

  pub begun_some : (op : ℕ) → 0 < op → begun_ok op g w ≡ (leb op 255 && (ltb 0 w && leb (g + w) most_payload))
  unfolding begun_ok
  begun_some op h = rw (ne_eqb op 0 (λ e. omega arith), lt-ltb 0 op h)

  pub begun_made : (op : ℕ) → 0 < op → op ≤ 255 → 0 < w → g + w ≤ most_payload → begun_ok op g w ≡ true
  begun_made op h a b c = begun_some op h ∙ rw (le-leb op 255 a, lt-ltb 0 w b, le-leb (g + w) most_payload c)

  -- the tests of a begun opcode, told apart
  begun_tests : (op : ℕ) → 0 < op → begun_ok op g w ≡ true → (op ≤ 255) × ((0 < w) × (g + w ≤ most_payload))
  begun_tests op h e =
      let a : Bool = leb op 255 in
      let b : Bool = ltb 0 w in
      let d : Bool = leb (g + w) most_payload in
      let all : (a && (b && d)) ≡ true = sym (begun_some op h) ∙ e in
      let last : (b && d) ≡ true = and_right a (b && d) all in
      (leb-true op 255 (and_left a (b && d) all), (ltb-true 0 w (and_left b d last), leb-true (g + w) most_payload (and_right b d last)))

pub begun-nothing : begun_ok 0 0 0 ≡ true
begun-nothing = begun-none 0 0

pub begun_idle : (op g w : ℕ) → begun_ok op g w ≡ true → w ≡ 0 → (op ≡ 0) × (g ≡ 0)
begun_idle zero g w e z = (refl, eqb-true g 0 (and_left (eqb g 0) (eqb w 0) (sym (begun-none g w) ∙ e)))
begun_idle (suc op) g w e z =
    let tests = begun_tests g w (suc op) (omega arith) e in
    absurd (omega arith)

pub begun_op : (op g w : ℕ) → begun_ok op g w ≡ true → 0 < w → (0 < op) × ((op ≤ 255) × (g + w ≤ most_payload))
begun_op zero g w e h =
    let none : w ≡ 0 = eqb-true w 0 (and_right (eqb g 0) (eqb w 0) (sym (begun-none g w) ∙ e)) in
    absurd (omega arith)
begun_op (suc op) g w e h =
    let tests = begun_tests g w (suc op) (omega arith) e in
    (omega arith, (tests.0, tests.1.1))

-- ---- the four parts
pub record Parts (s : State) (t m : ℕ) : Type 0 where
  pub settings : settings_ok s.settings ≡ true
  pub begun : begun_ok s.opcode s.gathered s.wanted ≡ true
  pub textures : slots_ok Texture t 0 s.textures ≡ true
  pub models : slots_ok Model m 0 s.models ≡ true

module _ (s : State) (t m : ℕ) where
  -- one part missing decides, whatever the rest is
  pub settings_not : settings_ok s.settings ≡ false → well_formed s t m ≡ false
  unfolding well_formed
  settings_not e = rw e

  pub begun_not : begun_ok s.opcode s.gathered s.wanted ≡ false → well_formed s t m ≡ false
  unfolding well_formed
  begun_not e = rw e (simp and-false)

  pub textures_not : slots_ok Texture t 0 s.textures ≡ false → well_formed s t m ≡ false
  unfolding well_formed
  textures_not e = rw e (simp and-false)

  pub models_not : slots_ok Model m 0 s.models ≡ false → well_formed s t m ≡ false
  unfolding well_formed
  models_not e = rw e (simp and-false)

  -- with the others there, the models decide
  pub models_left : settings_ok s.settings ≡ true → begun_ok s.opcode s.gathered s.wanted ≡ true → slots_ok Texture t 0 s.textures ≡ true
      → well_formed s t m ≡ slots_ok Model m 0 s.models
  unfolding well_formed
  models_left a b c = rw (a, b, c)

  pub formed : Parts s t m → well_formed s t m ≡ true
  formed p = models_left p.settings p.begun p.textures ∙ p.models

  pub parts : well_formed s t m ≡ true → Parts s t m
  unfolding well_formed
  parts e =
      let a : Bool = settings_ok s.settings in
      let b : Bool = begun_ok s.opcode s.gathered s.wanted in
      let c : Bool = slots_ok Texture t 0 s.textures in
      let d : Bool = slots_ok Model m 0 s.models in
      let three : (b && (c && d)) ≡ true = and_right a (b && (c && d)) e in
      let two : (c && d) ≡ true = and_right b (c && d) three in
      record { settings = and_left a (b && (c && d)) e; begun = and_left b (c && d) three; textures = and_left c d two; models = and_right c d two }

-- ---- the fresh state
none-held : (k : Kind) (n : ℕ) → slots_ok k n 0 (replicate 64 no_slot) ≡ true
none-held k n = le-leb 0 n (omega arith)

pub fresh_formed : (t m : ℕ) → well_formed fresh t m ≡ true
fresh_formed t m = formed fresh t m (record { settings = fresh_ok; begun = begun-nothing; textures = none-held Texture t; models = none-held Model m })
