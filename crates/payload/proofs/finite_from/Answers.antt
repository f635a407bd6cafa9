use Prim.Native.Nat.{ℕ, suc, ◌+◌, ◌-◌, ◌≤◌, ◌<◌}
use mathlib.Core.Path.{◌≡◌, sym, ◌∙◌}
use mathlib.Core.Bool.{true, false}
use mathlib.Core.List.{List}
use native.Mathlib.Omega.{arith}
use lib.Ieee.Scale.{finite}
use Rattle.verdict.specs.Verdict.{refused, done}
use Rattle.verdict.specs.declared.Reason.TheVariants.{NotFinite}
use Rattle.payload.specs.Words.{float_at, finite_from}
use Rattle.payload.proofs.finite_from.Goals as goal

module _ (p : List ℕ) (i end : ℕ) where
  module _ (h : i < end) where
    one_more : end - i ≡ suc (end - (i + 1))
    one_more = omega arith

    found : finite (float_at p i) ≡ false → finite_from p i (end - i) ≡ refused NotFinite i
    unfolding finite_from
    found e = rw (one_more, e)

    on : finite (float_at p i) ≡ true → finite_from p i (end - i) ≡ finite_from p (i + 1) (end - (i + 1))
    unfolding finite_from
    on e = rw (one_more, e)

  none_left : end ≤ i → finite_from p i (end - i) ≡ done
  unfolding finite_from
  none_left h = let e : end - i ≡ 0 = omega arith in rw e

pub returns-then-not-finite_bits : goal.returns-then-not-finite_bits
returns-then-not-finite_bits c = let e = sym c.finite_bits.ensures ∙ c.if-not-finite_bits.true in
    sym (c.loop-i.invariant.1 ∙ found c.args.p.now c.loop-i.i _ (omega arith) e)

pub loop-i-preserved : goal.loop-i-preserved
loop-i-preserved c = let e = sym c.finite_bits.ensures ∙ c.if-not-finite_bits.false in
    (omega arith, c.loop-i.invariant.1 ∙ on c.args.p.now c.loop-i.i _ (omega arith) e)

pub returns : goal.returns
returns c = sym (c.loop-i.invariant.1 ∙ none_left c.args.p.now c.loop-i.i _ (omega arith))
