-- What an opcode is, and what a command says by what it is: all that other proofs cite of `command_of` and of `told`. Assumes nothing.
use Prim.Native.Nat.{ℕ}
use mathlib.Core.Path.{◌≡◌, refl}
use mathlib.Core.Bool.{Bool, true, false, cond}
use mathlib.Core.List.{List, []}
use lib.Dec.{eqb}
use borrow.Author.Tests.{eqb-true}
use Rattle.std.specs.Prelude.{Option, Some, None}
use Rattle.settings.specs.declared.Settings.{Settings}
use Rattle.store.specs.declared.Kind.{Kind}
use Rattle.store.specs.declared.Kind.TheVariants.{Texture, Model}
use Rattle.command.specs.declared.Setting.{Setting}
use Rattle.command.specs.declared.Draw.TheVariants as draw
use Rattle.command.specs.declared.Command.{Command}
use Rattle.command.specs.declared.Command.TheVariants.{Sets, Loads, Paints}
use Rattle.command.specs.Command.{command_of}
use Rattle.execute.specs.Commands.{Look, told_as, told}
use Rattle.execute.specs.Control.{Keep, Control, execute}

pub told_as_lem : (look : Look) (s : Settings) (op : ℕ) (p : List ℕ) {c : Option Command} → command_of op ≡ c → told look s op p ≡ told_as look s c p
unfolding told
told_as_lem look s op p e = rw e

-- ---- the opcodes that claims speak of
pub command-of_04 : command_of 0x04 ≡ Some (Paints draw.Clear)
unfolding command_of
command-of_04 = refl

pub command-of_10 : command_of 0x10 ≡ Some (Paints draw.Sprite)
unfolding command_of
command-of_10 = refl

pub command-of_12 : command_of 0x12 ≡ Some (Paints draw.Flat)
unfolding command_of
command-of_12 = refl

pub command-of_17 : command_of 0x17 ≡ Some (Loads Texture)
unfolding command_of
command-of_17 = refl

pub command-of_18 : command_of 0x18 ≡ Some (Paints (draw.Textured false))
unfolding command_of
command-of_18 = refl

pub command-of_19 : command_of 0x19 ≡ Some (Paints (draw.Textured true))
unfolding command_of
command-of_19 = refl

pub command-of_1a : command_of 0x1a ≡ Some (Loads Model)
unfolding command_of
command-of_1a = refl

pub command-of_1b : command_of 0x1b ≡ Some (Paints draw.Model)
unfolding command_of
command-of_1b = refl

-- ---- and back: a clear and a model draw have no other opcode
abbrev Named : ℕ → Option Command → Type 0
Named op (Some (Sets x)) = Unit {0}
Named op (Some (Loads k)) = Unit {0}
Named op (Some (Paints draw.Clear)) = op ≡ 0x04
Named op (Some (Paints draw.Sprite)) = Unit {0}
Named op (Some (Paints draw.Flat)) = Unit {0}
Named op (Some (Paints (draw.Transformed normal))) = Unit {0}
Named op (Some (Paints (draw.Textured normal))) = Unit {0}
Named op (Some (Paints draw.Model)) = op ≡ 0x1b
Named op None = Unit {0}

test : (op n : ℕ) (x y : Option Command) → Named n x → Named op y → Named op (cond (eqb op n) x y)
test op n x y a b = go (eqb op n) refl
  where
    go : (t : Bool) → eqb op n ≡ t → Named op (cond t x y)
    go true e = rw (eqb-true op n e) a
    go false e = b

named : (op : ℕ) → Named op (command_of op)
unfolding command_of
named op =
    test op 0x01 _ _ tt
    (test op 0x02 _ _ tt
    (test op 0x04 _ _ refl
    (test op 0x10 _ _ tt
    (test op 0x12 _ _ tt
    (test op 0x14 _ _ tt
    (test op 0x15 _ _ tt
    (test op 0x16 _ _ tt (test op 0x17 _ _ tt (test op 0x18 _ _ tt (test op 0x19 _ _ tt (test op 0x1a _ _ tt (test op 0x1b _ None refl tt))))))))))))

pub clear-opcode : (op : ℕ) → command_of op ≡ Some (Paints draw.Clear) → op ≡ 0x04
clear-opcode op e = rw e at (named op)

pub model_opcode : (op : ℕ) → command_of op ≡ Some (Paints draw.Model) → op ≡ 0x1b
model_opcode op e = rw e at (named op)

-- ---- what sets or loads paints nothing
module _ {X : Type 0} (K : Keep X) (c : Control X) where
  pub sets_blank : (x : Setting) → command_of c.opcode ≡ Some (Sets x) → (execute K c).paints ≡ []
  unfolding execute told
  sets_blank x e = rw e

  pub loads_blank : (k : Kind) → command_of c.opcode ≡ Some (Loads k) → (execute K c).paints ≡ []
  unfolding execute told
  loads_blank Texture e = rw e
  loads_blank Model e = rw e
