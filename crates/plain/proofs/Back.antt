-- A state put out and taken in again is the state; plain data taken in and put out again is the same if every switch is 0 or 1. Assumes nothing.
use Prim.Native.Nat.{ℕ, zero, suc, ◌≤◌}
use mathlib.Core.Path.{◌≡◌, refl}
use mathlib.Core.Bool.{Bool, true, false, and-eq-true_iff}
use mathlib.Core.List.{List, [], ◌∷◌, map}
use native.Mathlib.Omega.{arith}
use borrow.Author.Tests.{leb-true}
use Rattle.light.specs.declared.Light.{Light}
use Rattle.store.specs.declared.Slot.{Slot}
use Rattle.std.specs.List.{list_all}
use Rattle.state.specs.declared.State.{State}
use Rattle.plain.specs.Plain.{switch_of, is_on, is_switch, light_in, light_out, slot_in, slot_out, state_in, state_out, light_switch, slot_switch, switches_ok}
use Rattle.plain.specs.declared.VpuLight.{VpuLight}
use Rattle.plain.specs.declared.VpuSlot.{VpuSlot}
use Rattle.plain.specs.declared.VpuState.{VpuState}

-- ---- one switch
is-on : (b : Bool) → is_on (switch_of b) ≡ b
is-on true = refl
is-on false = refl

is_switch_lem : (b : Bool) → is_switch (switch_of b) ≡ true
is_switch_lem true = refl
is_switch_lem false = refl

same_switch : (n : ℕ) → is_switch n ≡ true → switch_of (is_on n) ≡ n
same_switch zero e = refl
same_switch (suc zero) e = refl
same_switch (suc (suc n)) e = let z : suc (suc n) ≤ 1 = leb-true _ _ e in absurd (omega arith)

-- ---- lists of any kind
module _ {A B : Type 0} (f : A → B) (g : B → A) where
  map_back : ((a : A) → g (f a) ≡ a) → (l : List A) → map g (map f l) ≡ l
  map_back h [] = refl
  map_back h (a ∷ l) = rw (h a, map_back h l)

  map_back_where : (ok : A → Bool) → ((a : A) → ok a ≡ true → g (f a) ≡ a) → (l : List A) → list_all ok l ≡ true → map g (map f l) ≡ l
  map_back_where ok h [] e = refl
  map_back_where ok h (a ∷ l) e =
      let both = (and-eq-true_iff (ok a) (list_all ok l)).0 e in
      rw (h a both.0, map_back_where ok h l both.1)

all_map : {A B : Type 0} (f : A → B) (ok : B → Bool) → ((a : A) → ok (f a) ≡ true) → (l : List A) → list_all ok (map f l) ≡ true
all_map f ok h [] = refl
all_map f ok h (a ∷ l) = rw (h a, all_map f ok h l)

-- ---- a light and a slot
light_back : (l : Light) → light_in (light_out l) ≡ l
light_back l = rw (is-on l.enabled)

slot_back : (s : Slot) → slot_in (slot_out s) ≡ s
slot_back s = rw (is-on s.held)

light_same : (l : VpuLight) → light_switch l ≡ true → light_out (light_in l) ≡ l
light_same l e = rw (same_switch l.enabled e)

slot_same : (s : VpuSlot) → slot_switch s ≡ true → slot_out (slot_in s) ≡ s
slot_same s e = rw (same_switch s.held e)

-- ---- the state
pub in_out : (s : State) → state_in (state_out s) ≡ s
in_out s =
    rw (
      is-on s.settings.lighting_enabled,
      map_back light_out light_in light_back s.settings.lights,
      map_back slot_out slot_in slot_back s.textures,
      map_back slot_out slot_in slot_back s.models,
    )

pub out_ok : (s : State) → switches_ok (state_out s) ≡ true
unfolding switches_ok
out_ok s =
    rw (
      is_switch_lem s.settings.lighting_enabled,
      all_map light_out light_switch (λ l. is_switch_lem l.enabled) s.settings.lights,
      all_map slot_out slot_switch (λ t. is_switch_lem t.held) s.textures,
      all_map slot_out slot_switch (λ t. is_switch_lem t.held) s.models,
    )

pub out_in : (v : VpuState) → switches_ok v ≡ true → state_out (state_in v) ≡ v
unfolding switches_ok
out_in v e =
    let a = (and-eq-true_iff (is_switch v.lighting_enabled) _).0 e in
    let b = (and-eq-true_iff (list_all light_switch v.lights) _).0 a.1 in
    let c = (and-eq-true_iff (list_all slot_switch v.textures) (list_all slot_switch v.models)).0 b.1 in
    rw (
      same_switch v.lighting_enabled a.0,
      map_back_where light_in light_out light_switch light_same v.lights b.0,
      map_back_where slot_in slot_out slot_switch slot_same v.textures c.0,
      map_back_where slot_in slot_out slot_switch slot_same v.models c.1,
    )
