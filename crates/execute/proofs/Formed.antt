-- A command leaves what is well formed so: both stores, for words of the same lengths, and the settings. Assumes nothing.
use Prim.Native.Nat.{ℕ, ◌≤◌}
use mathlib.Core.Path.{◌≡◌, refl, ◌∙◌}
use mathlib.Core.Bool.{Bool, true, false, cond}
use mathlib.Core.Option.{Option, none, some}
use mathlib.Core.List.{List}
use native.Mathlib.Omega.{arith}
use borrow.Author.Tests.{eqb-true}
use lib.Dec.{eqb}
use lib.ListN.{length, take, length-take}
use Rattle.std.specs.Prelude.{Some, None, Result, Ok, Err, ⊤}
use Rattle.std.specs.Prelude as std
use Rattle.verdict.specs.Verdict.{Verdict, done, passed}
use Rattle.verdict.specs.declared.Refused.{Refused}
use Rattle.settings.specs.declared.Settings.{Settings}
use Rattle.settings.specs.Settings.{mode_verdict, with_mode, matrix_verdict, with_matrix, light_verdict, with_light, settings_ok}
use Rattle.settings.proofs.Formed as settings
use Rattle.payload.specs.Words.{when_done}
use Rattle.store.specs.declared.Kind.{Kind}
use Rattle.store.specs.declared.Kind.TheVariants.{Texture, Model}
use Rattle.store.specs.declared.NoRoom.{NoRoom}
use Rattle.store.specs.Uploads.{Whole, Card, card, stored}
use Rattle.store.specs.Slots as slots
use Rattle.store.specs.Slots.{slots_ok, is_fits}
use Rattle.store.proofs.Laws.{Space, space, length-stored}
use Rattle.store.proofs.Walk.{length-slots_of}
use Rattle.store.proofs.Held.{Sized, ok_formed, ok_rep, view-told, length-after}
use Rattle.store.proofs.Kept.{upload-ok}
use Rattle.state.specs.State.{most_payload}
use Rattle.command.specs.declared.Setting.{Setting}
use Rattle.command.specs.declared.Setting.TheVariants as setting
use Rattle.command.specs.declared.Command.{Command}
use Rattle.command.specs.declared.Command.TheVariants.{Sets, Loads, Paints}
use Rattle.command.specs.Command.{command_of}
use Rattle.execute.specs.Commands.{Look, Load, value_or, of_length, settings_after, texture_in, model_in, texture_verdict, count_verdict, load_told, told_as, told}
use Rattle.execute.specs.Control.{Control, kept_of, execute}
use Rattle.laws.proofs.Bools.{either}
use Rattle.execute.specs.Kept.{Shelf, Formed, Box, room_on, put_on, shelf_of, put_box, as_box}
use Rattle.execute.proofs.Laws.{texture_passes, count_passes}

-- what holds in both cases of a length
of_length_lem : {A : Type 0} (P : A → Type 0) (n : ℕ) (p : List ℕ) (x y : A) → (length p ≡ n → P x) → P y → P (of_length n p x y)
of_length_lem P n p x y a b = go (eqb (length p) n) refl
  where
    go : (t : Bool) → eqb (length p) n ≡ t → P (cond t x y)
    go true e = a (eqb-true (length p) n e)
    go false e = b

-- ---- the settings
-- what holds of them before a command, and after those that set, holds after every command
module _ (P : Settings → Type 0) (s : Settings) (p : List ℕ) (old : P s)
    (mode : P (when_done (mode_verdict p) (with_mode s p) s))
    (matrix : length p ≡ 17 → P (when_done (matrix_verdict p) (with_matrix s p) s))
    (light : P (when_done (light_verdict p) (with_light s p) s)) where
  abbrev After : Result Settings Refused → Type 0
  After r = P (value_or s r)

  -- if checks that came to v find nothing, it is t
  after_checks : (v : Verdict) (t : Settings) → P (when_done v t s) → After (passed v t)
  after_checks (Ok u) t h = h
  after_checks (Err e) t h = h

  set_keeps : (x : Setting) → After (settings_after s x p)
  unfolding settings_after
  set_keeps setting.Mode = of_length_lem After 2 p _ _ (λ n. after_checks (mode_verdict p) (with_mode s p) mode) old
  set_keeps setting.Matrix = of_length_lem After 17 p _ _ (λ n. after_checks (matrix_verdict p) (with_matrix s p) (matrix n)) old
  set_keeps setting.Light = of_length_lem After 17 p _ _ (λ n. after_checks (light_verdict p) (with_light s p) light) old

  as_keeps : (look : Look) (c : std.Option Command) → P (told_as look s c p).settings
  as_keeps look (Some (Sets x)) = set_keeps x
  as_keeps look (Some (Loads Texture)) = old
  as_keeps look (Some (Loads Model)) = old
  as_keeps look (Some (Paints d)) = old
  as_keeps look None = old

  settings_keep : (op : ℕ) (look : Look) → P (told look s op p).settings
  unfolding told
  settings_keep op look = as_keeps look (command_of op)

-- ---- what is to be kept passed its checks
abbrev pub Passed : Option Load → Type 0
Passed none = Unit {0}
Passed (some l) = Sized l.kind (card l.whole)

when_passed : (v : Verdict) (l : Load) → (v ≡ done → Passed (some l)) → Passed (when_done v (some l) none)
when_passed (Ok u) l h = h refl
when_passed (Err e) l h = tt

module _ (s : Settings) (p : List ℕ) (most : length p ≤ most_payload) where
  texture_passed : Passed (load_told s Texture p).load
  texture_passed =
      when_passed (texture_verdict p) (texture_in p)
      (λ e.
      let q = texture_passes p e in
      record { sides = q.sides; size = q.size })

  model_passed : Passed (load_told s Model p).load
  model_passed =
      when_passed (count_verdict p) (model_in p)
      (λ e.
      let q = count_passes p most e in
      record { sides = q.sides; size = q.size })

  as_passed : (look : Look) (c : std.Option Command) → Passed (told_as look s c p).load
  as_passed look (Some (Sets x)) = tt
  as_passed look (Some (Loads Texture)) = texture_passed
  as_passed look (Some (Loads Model)) = model_passed
  as_passed look (Some (Paints d)) = tt
  as_passed look None = tt

  pub load_passed : (op : ℕ) (look : Look) → Passed (told look s op p).load
  unfolding told
  load_passed op look = as_passed look (command_of op)

-- ---- one store: 64 slots, and n words for which they are well formed
pub record Sound (k : Kind) (s : Shelf) (n : ℕ) : Type 0 where
  pub slots : length s.slots ≡ 64
  pub long : length s.words ≡ n
  pub formed : Formed k s.slots n

module _ (k : Kind) (s : Shelf) (n : ℕ) (h : Sound k s n) (u : Whole) (sized : Sized k (card u)) (fits : room_on k s u ≡ Ok _) where
  abbrev cs : List Card
  cs = slots.told k s.slots

  ok : slots_ok k (length s.words) 0 s.slots ≡ true
  ok = rw h.long h.formed.ok

  left : Space (length s.words) cs u.number (length u.words)
  left = space (length s.words) cs u.number (length u.words) (ok_formed k (length s.words) s.slots h.slots ok).few fits

  put_sound : Sound k (put_on k s u) n
  put_sound = record {
    slots = length-slots_of (stored (card u) cs) (omega (arith, length-stored (card u) cs, left.slot));
    long = length-after u (ok_rep k s.slots s.words h.slots ok) (rw (view-told k s.slots s.words h.slots ok) left) ∙ h.long;
    formed = record { ok = rw h.long at (upload-ok k (length s.words) s.slots (card u) h.slots ok sized fits); few = h.formed.few };
  }

-- ---- both stores, with t and m words
pub record Stands (b : Box) (t m : ℕ) : Type 0 where
  pub textures : Sound Texture b.textures t
  pub models : Sound Model b.models m

module _ {b : Box} {t m : ℕ} (h : Stands b t m) where
  put_stands : (k : Kind) (u : Whole) → Sized k (card u) → room_on k (shelf_of b k) u ≡ Ok _ → Stands (put_box b k u) t m
  put_stands Texture u z e = record { textures = put_sound Texture b.textures t h.textures u z e; models = h.models }
  put_stands Model u z e = record { textures = h.textures; models = put_sound Model b.models m h.models u z e }

  kept_stands : (o : Option Load) → Passed o → Stands (kept_of as_box b o) t m
  kept_stands none q = h
  kept_stands (some l) q = go (room_on l.kind (shelf_of b l.kind) l.whole) refl
    where
      go : (r : Result ⊤ NoRoom) → room_on l.kind (shelf_of b l.kind) l.whole ≡ r → Stands (cond (is_fits r) (put_box b l.kind l.whole) b) t m
      go (Ok u) e = put_stands l.kind l.whole q e
      go (Err why) e = h

-- the command area is as it was
kept-area : (b : Box) (o : Option Load) → (kept_of as_box b o).area ≡ b.area
kept-area b none = refl
kept-area b (some l) = either (λ (x : Box). x.area ≡ b.area) (is_fits (room_on l.kind (shelf_of b l.kind) l.whole)) (put_box b l.kind l.whole) b (put-area l.kind) refl
  where
    put-area : (k : Kind) → (put_box b k l.whole).area ≡ b.area
    put-area Texture = refl
    put-area Model = refl

-- ---- a command
module _ (c : Control Box) where
  abbrev p : List ℕ
  p = take c.box.gathered c.box.area

  abbrev load : Option Load
  load = (told (as_box.look c.box) c.settings c.opcode p).load

  pub execute_stands : {t m : ℕ} → c.box.gathered ≤ most_payload → Stands c.box t m → Stands (execute as_box c).control.box t m
  unfolding execute
  execute_stands most h =
      let short : length p ≤ most_payload = omega (arith, length-take c.box.gathered c.box.area) in
      let after = kept_stands h load (load_passed c.settings p short c.opcode (as_box.look c.box)) in
      record { textures = after.textures; models = after.models }

  pub execute-settings : settings_ok c.settings ≡ true → settings_ok (execute as_box c).control.settings ≡ true
  unfolding execute
  execute-settings h =
      settings_keep (λ s. settings_ok s ≡ true) c.settings p h (settings.mode_ok c.settings p h) (λ n. settings.matrix_ok c.settings p h) (settings.light_ok_lem c.settings p h)
      c.opcode (as_box.look c.box)

  pub execute_sized : settings.Sized c.settings → settings.Sized (execute as_box c).control.settings
  unfolding execute
  execute_sized h =
      settings_keep settings.Sized c.settings p h (settings.mode_sized c.settings p h) (settings.matrix_sized c.settings p h) (settings.light_sized c.settings p h)
      c.opcode (as_box.look c.box)

  -- no command is begun then
  pub execute_idle : ((execute as_box c).control.opcode ≡ 0) × (((execute as_box c).control.wanted ≡ 0) × ((execute as_box c).control.box.gathered ≡ 0))
  unfolding execute
  execute_idle = (refl, (refl, refl))

  pub execute-area : (execute as_box c).control.box.area ≡ c.box.area
  unfolding execute
  execute-area = kept-area c.box load
