-- What a verdict that finds nothing says of the words. Assumes nothing.
use Prim.Native.Nat.{ℕ, ◌≤◌}
use mathlib.Core.Path.{◌≡◌}
use mathlib.Core.List.{List}
use Rattle.verdict.specs.Verdict.{Verdict, done}
use Rattle.payload.specs.Words.{and_then, word_at, at_most, finite_from}
use Rattle.verdict.proofs.Checks.{first_done, next_done}
use Rattle.payload.proofs.Done.{at-most-done}
use Rattle.settings.specs.Settings.{mode_verdict, matrix_verdict, light_verdict}

pub mode_value : (p : List ℕ) → mode_verdict p ≡ done → word_at p 1 ≤ 1
unfolding mode_verdict
mode_value p e = at-most-done p 1 1 (next_done (at_most p 0 1) (at_most p 1 1) e)

module _ (p : List ℕ) (e : matrix_verdict p ≡ done) where
  pub matrix_number : word_at p 0 ≤ 2
  unfolding matrix_verdict
  matrix_number = at-most-done p 0 2 (first_done (at_most p 0 2) (finite_from p 1 16) e)

  pub matrix_words : finite_from p 1 16 ≡ done
  unfolding matrix_verdict
  matrix_words = next_done (at_most p 0 2) (finite_from p 1 16) e

module _ (p : List ℕ) (e : light_verdict p ≡ done) where
  abbrev rest : Verdict
  rest = and_then (at_most p 1 1) (finite_from p 2 15)

  pub light_number : word_at p 0 ≤ 7
  unfolding light_verdict
  light_number = at-most-done p 0 7 (first_done (at_most p 0 7) rest e)

  pub light_words : finite_from p 2 15 ≡ done
  unfolding light_verdict
  light_words = next_done (at_most p 1 1) (finite_from p 2 15) (next_done (at_most p 0 7) rest e)
