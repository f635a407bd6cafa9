-- `ieee::cast::cut_up` meets its contract, each way out by a law of `Ups.antt`. Assumes nothing.
use Rattle.std.proofs.Common.{T, pos, sym, ap, ◌∙◌, subst}
use lib.Ieee.{Float, binary32, binary64, fits, lt, of_int}
use Rattle.ieee.proofs.Ups.{up_more, up_equal, up_last, up_none}
use Rattle.ieee.proofs.cast.cut_up.Goals as goal
use Rattle.ieee.proofs.cast.cut_up.Goals.{Start, else-n-last-via-then-n-last+else-n-f32_to_f64_with_nan, else-n-last-via-else-n-last}

held : (c : Start) → T (fits binary32 c.args.x)
held c = subst T (sym c.well_formed.0.1) tt

pub returns-then-n-f32_to_f64_with_nan : goal.returns-then-n-f32_to_f64_with_nan
returns-then-n-f32_to_f64_with_nan c = let called = c.cut-n in
    up_more called.result c.args.last c.args.x c.ranges.last.fits (held c.before.before.before.before.before.before) c.if-x.true called.ensures c.if-n-last.true
    (sym (ap (λ (y : Float). lt (of_int binary64 (pos called.result)) y) c.f32_to_f64_with_nan.ensures) ∙ c.if-n-f32_to_f64_with_nan.true)

pub returns-then-x : goal.returns-then-x
returns-then-x c = let called = c.cut-n in
    let t = held c.before.before.before in
    elim c.else-n-last.branch [
      | else-n-last-via-then-n-last+else-n-f32_to_f64_with_nan w ↦
          up_equal called.result c.args.last c.args.x c.ranges.last.fits t c.if-x.true called.ensures w.if-n-last.true
          (sym (ap (λ (y : Float). lt (of_int binary64 (pos called.result)) y) w.f32_to_f64_with_nan.ensures) ∙ w.if-n-f32_to_f64_with_nan.false)
      | else-n-last-via-else-n-last w ↦ up_last called.result c.args.last c.args.x t c.if-x.true called.ensures w.if-n-last.false
    ]

pub returns : goal.returns
returns c = up_none c.args.x c.args.last (held c.before) c.if-x.false
