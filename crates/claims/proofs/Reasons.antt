-- Which reasons a command's checks give: what holds of "done" and of each of the first eight reasons, whatever the index, holds of every verdict but a full store's. Assumes nothing.
use Prim.Native.Nat.{ℕ}
use Rattle.verdict.specs.Verdict.{Verdict, refused}
use Rattle.verdict.specs.Verdict as verdict
use mathlib.Core.Bool.{Bool}
use mathlib.Core.List.{List}
use lib.Ieee.{Float}
use Rattle.verdict.specs.declared.Reason.TheVariants.{OutOfRange, NotFinite, NotHeld, NotInvertible}
use Rattle.settings.specs.declared.Settings.{Settings}
use Rattle.sprite.specs.Words.{fit_verdict}
use Rattle.decide.specs.Verdicts.{checked_verdict}
use Rattle.execute.specs.Commands.{Look, unknown, wrong_length, told}
use Rattle.execute.proofs.Reasons as bounded

module _ (Q : Verdict → Type 0) (done : Q verdict.done) (range : (i : ℕ) → Q (refused OutOfRange i)) (float : (i : ℕ) → Q (refused NotFinite i)) (matrix : Q (refused NotInvertible 0)) where
  -- a textured draw, after its mode and its number
  pub checked_so : (p : List ℕ) (normal : Bool) (m : List Float) → Q (checked_verdict p normal m)
  checked_so = bounded.checked_so Q done (λ i h. range i) (λ i h. float i) matrix

  pub fit_so : (p : List ℕ) (w h : ℕ) → Q (fit_verdict p w h)
  fit_so = bounded.fit_so Q done (λ i h. range i) (λ i h. float i) matrix

  module _ (long : Q wrong_length) (no_such : Q unknown) (held : Q (refused NotHeld 0)) where
    -- every command, before room is asked
    pub told_so : (look : Look) (s : Settings) (op : ℕ) (p : List ℕ) → Q (told look s op p).verdict
    told_so = bounded.told_so Q done (λ i h. range i) (λ i h. float i) matrix long no_such held
