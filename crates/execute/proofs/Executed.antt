-- What a command comes to in the code is what the definition gives, by what the command is. Assumes nothing.
use Prim.Native.Nat.{ℕ}
use mathlib.Core.Path.{◌≡◌, refl, sym, ap, ◌∙◌}
use mathlib.Core.Bool.{cond}
use mathlib.Core.Option.{none, some}
use mathlib.Core.List.{List, []}
use lib.IntN.{ℤ}
use lib.Ieee.{Float}
use lib.ListN.{take}
use Rattle.std.specs.Prelude.{Some, None, Result, Ok, Err, ⊤}
use Rattle.settings.specs.declared.Settings.{Settings}
use Rattle.store.specs.declared.Slot.{Slot}
use Rattle.store.specs.declared.Kind.TheVariants.{Texture, Model}
use Rattle.store.specs.declared.NoRoom.{NoRoom}
use Rattle.store.specs.Slots.{is_fits}
use Rattle.verdict.specs.Verdict.{Verdict, when_done}
use Rattle.verdict.specs.declared.Refused.{Refused}
use Rattle.state.specs.declared.State.{State}
use Rattle.execute.specs.Paints.{picture, paints_on}
use Rattle.command.specs.declared.Setting.{Setting}
use Rattle.command.specs.declared.Draw.{Draw}
use Rattle.command.specs.declared.Command.TheVariants.{Sets, Loads, Paints}
use Rattle.command.specs.Command.{command_of}
use Rattle.execute.specs.Commands.{Load, Told, unknown, verdict_by, value_or, loading, settings_after, texture_verdict, count_verdict, texture_in, model_in, painted_by, told}
use Rattle.execute.specs.Control.{Control, room_verdict, verdict_of, kept_of, execute, executed}
use Rattle.execute.specs.Kept.{Shelf, shelf, room_on, put_on, Shelved, shelved, shelved_by, kept_on, loaded_on, look_on, Box, box, shelf_of, put_box, as_box, Machine, control_of, machine, ended_state}

-- an upload whose checks came to v₀, by whether it has room. `with x`: the box with x in the upload's place
kept_by : (t : Told) (b : Box) (v₀ : Verdict) (l : Load) (with : Shelf → Box) (v : Verdict) (x : Shelf) → t.verdict ≡ v₀ → t.load ≡ when_done v₀ (some l) none
    → with (shelf_of b l.kind) ≡ b → with (put_on l.kind (shelf_of b l.kind) l.whole) ≡ put_box b l.kind l.whole
    → shelved v x ≡ loaded_on v₀ l (shelf_of b l.kind)
    → (verdict_of as_box b t t.load ≡ v) × (kept_of as_box b t.load ≡ with x)
unfolding loaded_on kept_on
kept_by t b (Ok u) l with v x a d same put e = rw d (go (room_on l.kind (shelf_of b l.kind) l.whole) refl e)
  where
    go : (r : Result ⊤ NoRoom) → room_on l.kind (shelf_of b l.kind) l.whole ≡ r
        → shelved v x ≡ shelved (room_verdict r) (cond (is_fits r) (put_on l.kind (shelf_of b l.kind) l.whole) (shelf_of b l.kind))
        → (room_verdict r ≡ v) × (cond (is_fits r) (put_box b l.kind l.whole) b ≡ with x)
    go (Ok u) g w = (sym (ap (λ (y : Shelved). y.verdict) w), sym (ap (λ (y : Shelved). with y.shelf) w ∙ put))
    go (Err why) g w = (sym (ap (λ (y : Shelved). y.verdict) w), sym (ap (λ (y : Shelved). with y.shelf) w ∙ same))
kept_by t b (Err why) l with v x a d same put e =
    rw d (a ∙ sym (ap (λ (y : Shelved). y.verdict) e), sym (ap (λ (y : Shelved). with y.shelf) e ∙ same))

-- the state s, with the command area C, the textures' words T and the models' words M
module _ (s : State) (C T M : List ℕ) where
  -- the payload
  abbrev p : List ℕ
  p = take s.gathered C

  pub set-executed : (x : Setting) (c : Result Settings Refused) (r : State) → command_of s.opcode ≡ Some (Sets x) → c ≡ settings_after s.settings x p
      → r ≡ ended_state s (value_or s.settings c) s.textures s.models (verdict_by c) → control_of r C T M ≡ (execute as_box (control_of s C T M)).control
  unfolding execute told
  set-executed x c r h e f = rw (f, e, h)

  pub texture_executed : (k : Result (List Slot) Refused) (T' : List ℕ) (r : State) → command_of s.opcode ≡ Some (Loads Texture)
      → shelved_by s.textures k T' ≡ loaded_on (texture_verdict p) (texture_in p) (shelf s.textures T)
      → r ≡ ended_state s s.settings (value_or s.textures k) s.models (verdict_by k)
      → control_of r C T' M ≡ (execute as_box (control_of s C T M)).control
  unfolding execute told
  texture_executed k T' r h e f =
      let b : Box = box (shelf s.textures T) (shelf s.models M) C s.gathered in
      let both = kept_by (loading (texture_verdict p) s.settings (texture_in p)) b (texture_verdict p) (texture_in p) (λ x. box x b.models b.area b.gathered) (verdict_by k) (shelf (value_or s.textures k) T') refl refl refl refl e in
      rw (f, h, both.0, both.1)

  pub model_executed : (k : Result (List Slot) Refused) (M' : List ℕ) (r : State) → command_of s.opcode ≡ Some (Loads Model)
      → shelved_by s.models k M' ≡ loaded_on (count_verdict p) (model_in p) (shelf s.models M)
      → r ≡ ended_state s s.settings s.textures (value_or s.models k) (verdict_by k)
      → control_of r C T M' ≡ (execute as_box (control_of s C T M)).control
  unfolding execute told
  model_executed k M' r h e f =
      let b : Box = box (shelf s.textures T) (shelf s.models M) C s.gathered in
      let both = kept_by (loading (count_verdict p) s.settings (model_in p)) b (count_verdict p) (model_in p) (λ x. box b.textures x b.area b.gathered) (verdict_by k) (shelf (value_or s.models k) M') refl refl refl refl e in
      rw (f, h, both.0, both.1)

  -- ---- and with the picture
  module _ (P : List ℕ) (D : List ℤ) (F : List Float) where
    -- a command that paints nothing is all in its control
    pub blank-executed : (r : State) (T' M' : List ℕ) → (execute as_box (control_of s C T M)).paints ≡ []
        → control_of r C T' M' ≡ (execute as_box (control_of s C T M)).control → machine r P D F C T' M' ≡ executed as_box (machine s P D F C T M)
    unfolding paints_on
    blank-executed r T' M' z e = rw z (ap (λ (k : Control Box). seen k) e)
      where
        seen : Control Box → Machine
        seen k = record { control = k; picture = picture P D F }

    pub paint-executed : (d : Draw) (v : Verdict) (P' : List ℕ) (D' : List ℤ) (F' : List Float) (r : State) → command_of s.opcode ≡ Some (Paints d)
        → v ≡ (painted_by (look_on (shelf s.textures T) (shelf s.models M)) s.settings d p).verdict
        → picture P' D' F' ≡ paints_on (painted_by (look_on (shelf s.textures T) (shelf s.models M)) s.settings d p).paints (picture P D F)
        → r ≡ ended_state s s.settings s.textures s.models v
        → machine r P' D' F' C T M ≡ executed as_box (machine s P D F C T M)
    unfolding execute told
    paint-executed d v P' D' F' r h e q f = rw (f, e, q, h)

    pub unknown-executed : (r : State) → command_of s.opcode ≡ None → r ≡ ended_state s s.settings s.textures s.models unknown
        → machine r P D F C T M ≡ executed as_box (machine s P D F C T M)
    unfolding execute told paints_on
    unknown-executed r h f = rw (f, h)
