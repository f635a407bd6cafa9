use Prim.Native.Nat.{ℕ, ◌+◌, ◌-◌, ◌<◌}
use mathlib.Core.Path.{◌≡◌, sym, ap, ◌∙◌}
use mathlib.Core.Bool.{true, false}
use native.Mathlib.Omega.{arith}
use borrow.Author.Rules.{rules}
use borrow.Author.Tests.{ltb-false}
use lib.ListN.{length, drop, get_or, length-set, length-drop}
use lib.Seq.{take_all}
use Rattle.store.specs.Slots.{no_slot, fresh}
use Rattle.formed.specs.Tests.{hits}
use Rattle.store.proofs.Walk.{slots_end}
use Rattle.formed.proofs.Marks.{marked-held, differ_held, once_fresh}
use Rattle.formed.proofs.numbers_differ.Goals as goal
use Rattle.formed.proofs.numbers_differ.Goals.{then-marks-mark, else-marks-mark, then-ok+then-not-again, then-ok+else-not-again, else-ok}

pub loop-i-init : goal.loop-i-init
loop-i-init c = let none = slots_end c.args.slots 64 (search rules) in
    (search rules, (rw none, λ n h. ap (fresh n) none))

pub loop-i-preserved-then-s : goal.loop-i-preserved-then-s
loop-i-preserved-then-s c =
    let ss = c.args.slots in
    let j = c.loop-i.i in
    let i = j - 1 in
    let inv = c.loop-i.invariant in
    let next : i + 1 ≡ j = omega arith in
    let long : length ss ≡ 64 = search rules in
    let here : i < length ss = omega arith in
    let held : (get_or ss i no_slot).held ≡ true = c.if-s.true in
    let number = (get_or ss i no_slot).number in
    let new : c.if-marks-mark.again ≡ false → fresh number (drop j ss) ≡ true = λ no.
    elim c.if-marks-mark.branch [
      | then-marks-mark w ↦ let once = ltb-false 1 w.times.result (sym w.again-is ∙ no) in
          once_fresh ss i j next here (omega (arith, once, w.times.ensures, ap (hits number) c.numbers_of-numbers.ensures))
      | else-marks-mark w ↦ inv.1.1 number w.if-marks-mark.false
    ] in
    let after = take_all (64 - (i + 1)) (drop (i + 1) ss) (omega (arith, length-drop (i + 1) ss)) ∙ ap (λ (n : ℕ). drop n ss) next in
    let whole = differ_held ss i j next here held in (
      simp length-set inv.0,
      (
        elim c.if-ok.branch [
          | then-ok+then-not-again w ↦ let free = new w.if-not-again.true in rw (whole, w.ok-is, w.if-not-again.true, ← inv.1.0, w.if-ok.true, free)
          | then-ok+else-not-again w ↦ rw (whole, w.ok-is, ← inv.1.0, w.if-ok.true) (w.fresh.ensures ∙ ap (fresh number) after)
          | else-ok w ↦ rw (whole, w.ok-is, ← inv.1.0, w.if-ok.false)
        ],
        marked-held ss i j next here c.loop-i.marks inv.0 held inv.1.1,
      ),
    )
