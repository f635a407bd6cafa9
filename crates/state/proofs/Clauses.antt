-- Each clause of "well formed" decides by itself: a state that breaks one is malformed, whatever the rest of it is. Assumes nothing.
use Prim.Native.Nat.{ℕ, zero, suc, ◌+◌, ◌≤◌, ◌<◌}
use mathlib.Core.Path.{◌≡◌, ◌∙◌}
use mathlib.Core.Bool.{true, false, ◌&&◌, and-false}
use mathlib.Core.List.{List}
use native.Mathlib.Omega.{arith}
use borrow.Author.Tests.{ne_eqb, lt-leb}
use lib.Dec.{eqb, leb}
use lib.ListN.{length, take, get_or}
use lib.Ieee.{Float}
use lib.Ieee.Scale.{finite}
use Rattle.light.specs.declared.Light.{Light}
use Rattle.settings.specs.Clauses.{Term, term}
use Rattle.settings.proofs.Formed.{matrix_not_finite, light_not_finite, mode_not_small}
use Rattle.store.specs.declared.Slot.{Slot}
use Rattle.store.specs.declared.Kind.{Kind}
use Rattle.store.specs.declared.Kind.TheVariants.{Texture, Model}
use Rattle.store.specs.Uploads.{total}
use Rattle.store.specs.Slots.{no_slot, told, slots_ok}
use Rattle.state.specs.State.{most_payload, begun_ok, well_formed}
use Rattle.state.specs.declared.State.{State}
use Rattle.state.proofs.Formed.{settings_not, begun-none, begun_some, begun_made, begun_not, textures_not, models_not}
use Rattle.state.specs.Clauses.{Side, side, Field, field}
use Rattle.state.proofs.Slots.{texture_zero, texture_large, not_zero, slot_not_zero, sides_wrong, gap_wrong, twice_wrong, start_wrong, end_wrong}

-- ---- the command begun
module _ (g w : ℕ) where
  pub idle_gathered : 0 < g → begun_ok 0 g w ≡ false
  idle_gathered h = begun-none g w ∙ rw (ne_eqb g 0 (λ e. omega arith))

  pub idle_wanted : 0 < w → begun_ok 0 g w ≡ false
  idle_wanted h = begun-none g w ∙ rw (ne_eqb w 0 (λ e. omega arith)) (and-false (eqb g 0))

  pub opcode_large : (op : ℕ) → 255 < op → begun_ok op g w ≡ false
  opcode_large op h = begun_some g w op (omega arith) ∙ rw (lt-leb op 255 h)

  pub sum_large : (op : ℕ) → 524292 ≤ g + w → begun_ok op g w ≡ false
  sum_large zero h = begun-none g w ∙ go g w h
    where
      go : (a b : ℕ) → 524292 ≤ a + b → (eqb a 0 && eqb b 0) ≡ false
      go zero b p = ne_eqb b 0 (λ e. omega arith)
      go (suc a) b p = rw (ne_eqb (suc a) 0 (λ e. omega arith))
  sum_large (suc op) h = begun_some g w (suc op) (omega arith) ∙ rw (lt-leb (g + w) most_payload (omega arith)) (simp and-false)

  -- one word less is taken
  pub sum-most : (op : ℕ) → 0 < op → op ≤ 255 → 0 < w → g + w ≡ 524291 → begun_ok op g w ≡ true
  sum-most op a b c e = begun_made g w op a b c (omega arith)

pub wants_nothing : (op g : ℕ) → 0 < op → begun_ok op g 0 ≡ false
wants_nothing op g h = begun_some g 0 op h ∙ and-false (leb op 255)

module _ (s : State) (t m : ℕ) where
  pub idle_gathered_not : s.opcode ≡ 0 → 0 < s.gathered → well_formed s t m ≡ false
  idle_gathered_not e h = begun_not s t m (rw e (idle_gathered s.gathered s.wanted h))

  pub idle_wanted_not : s.opcode ≡ 0 → 0 < s.wanted → well_formed s t m ≡ false
  idle_wanted_not e h = begun_not s t m (rw e (idle_wanted s.gathered s.wanted h))

  pub opcode_not : 255 < s.opcode → well_formed s t m ≡ false
  opcode_not h = begun_not s t m (opcode_large s.gathered s.wanted s.opcode h)

  pub wanted_not : 0 < s.opcode → s.wanted ≡ 0 → well_formed s t m ≡ false
  wanted_not h e = begun_not s t m (rw e (wants_nothing s.opcode s.gathered h))

  pub sum_not : 524292 ≤ s.gathered + s.wanted → well_formed s t m ≡ false
  sum_not h = begun_not s t m (sum_large s.gathered s.wanted s.opcode h)

-- ---- the settings
module _ (s : State) (t m : ℕ) where
  -- rule 1.10: matrices and lights are finite
  pub matrix_not : (i : ℕ) (d : Float) → i < length s.settings.matrices → finite (get_or s.settings.matrices i d) ≡ false → well_formed s t m ≡ false
  matrix_not i d h e = settings_not s t m (matrix_not_finite s.settings i d h e)

  pub light_not : (k : ℕ) (dark : Light) (x : Term) (i : ℕ) (d : Float) → k < length s.settings.lights → i < length (term x (get_or s.settings.lights k dark))
      → finite (get_or (term x (get_or s.settings.lights k dark)) i d) ≡ false → well_formed s t m ≡ false
  light_not k dark x i d h j e = settings_not s t m (light_not_finite s.settings k dark x i d h j e)

  -- rule 1.10: the shading mode is at most 1
  pub mode_not : 1 < s.settings.shading_mode → well_formed s t m ≡ false
  mode_not h = settings_not s t m (mode_not_small s.settings h)

-- ---- the slots
abbrev pub slots_in : Kind → State → List Slot
slots_in Texture s = s.textures
slots_in Model s = s.models

abbrev pub words_in : Kind → ℕ → ℕ → ℕ
words_in Texture t m = t
words_in Model t m = m

module _ (s : State) (t m : ℕ) (k : Kind) where
  abbrev l : List Slot
  l = slots_in k s

  slots_not : (j : Kind) → slots_ok j (words_in j t m) 0 (slots_in j s) ≡ false → well_formed s t m ≡ false
  slots_not Texture e = textures_not s t m e
  slots_not Model e = models_not s t m e

  pub gap_not : (i j : ℕ) → i < j → j < length l → (get_or l i no_slot).held ≡ false → (get_or l j no_slot).held ≡ true → well_formed s t m ≡ false
  gap_not i j a b h e = slots_not k (gap_wrong k (words_in k t m) l i j 0 a b h e)

  pub twice_not : (i j : ℕ) → i < j → j < length l → (get_or l i no_slot).held ≡ true → (get_or l j no_slot).held ≡ true
      → (get_or l i no_slot).number ≡ (get_or l j no_slot).number → well_formed s t m ≡ false
  twice_not i j a b h e d = slots_not k (twice_wrong k (words_in k t m) l i j 0 a b h e d)

  -- an area begins where those before it end, to the word
  pub start_not : (i : ℕ) → i < length l → (get_or l i no_slot).held ≡ true → ((get_or l i no_slot).start ≡ total (told k (take i l)) → ⊥) → well_formed s t m ≡ false
  start_not i b h n = slots_not k (start_wrong k (words_in k t m) l i 0 b h (λ e. n (omega arith)))

  pub end_not : words_in k t m < total (told k l) → well_formed s t m ≡ false
  end_not h = slots_not k (end_wrong k (words_in k t m) l 0 (omega arith))

  pub unused_not : (i : ℕ) (f : Field) → i < length l → (get_or l i no_slot).held ≡ false → (field f (get_or l i no_slot) ≡ 0 → ⊥) → well_formed s t m ≡ false
  unused_not i f b h n = slots_not k (slot_not_zero k (words_in k t m) l i b h (not_zero f (get_or l i no_slot) n))

module _ (s : State) (t m i : ℕ) where
  -- rule 1.12: the sides of a texture
  module _ (d : Side) (here : i < length s.textures) (h : (get_or s.textures i no_slot).held ≡ true) where
    abbrev x : Slot
    x = get_or s.textures i no_slot

    pub side-zero_not : side d x ≡ 0 → well_formed s t m ≡ false
    side-zero_not e = textures_not s t m (sides_wrong Texture t s.textures i here h (texture_zero d x e))

    pub side_large_not : 1024 < side d x → well_formed s t m ≡ false
    side_large_not e = textures_not s t m (sides_wrong Texture t s.textures i here h (texture_large d x e))

  -- rule 1.12: the count of a model, and no height
  module _ (here : i < length s.models) (h : (get_or s.models i no_slot).held ≡ true) where
    abbrev y : Slot
    y = get_or s.models i no_slot

    pub count_zero_not : y.width ≡ 0 → well_formed s t m ≡ false
    count_zero_not e = models_not s t m (sides_wrong Model m s.models i here h (rw e))

    pub count_large_not : 18724 < y.width → well_formed s t m ≡ false
    count_large_not e = models_not s t m (sides_wrong Model m s.models i here h (rw (lt-leb y.width 18724 e) (simp and-false)))

    pub height_not : (y.height ≡ 0 → ⊥) → well_formed s t m ≡ false
    height_not n = models_not s t m (sides_wrong Model m s.models i here h (rw (ne_eqb y.height 0 n) (simp and-false)))
