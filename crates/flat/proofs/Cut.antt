-- Less, as a test says it. Assumes nothing.
use mathlib.Core.Path.{◌≡◌}
use mathlib.Core.Bool.{true}
use lib.IntN.{ℤ}
use lib.Signed.{lt_z, ◌<ℤ◌}
use Rattle.std.proofs.Common.{arith}
use Rattle.std.proofs.lemmas.Int.{ints}

pub less : (a b : ℤ) → a <ℤ b → lt_z a b ≡ true
less a b h = grind (arith, ints)
