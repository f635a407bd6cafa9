-- No second answer: what a call's contract says leaves one answer, one state and one content of every lent memory. Assumes nothing.
use Prim.Native.Nat.{ℕ}
use mathlib.Core.Path.{◌≡◌, refl, sym, ap, ◌∙◌}
use mathlib.Core.List.{List}
use native.Mathlib.Omega.{arith}
use lib.IntN.{ℤ}
use lib.Ieee.{Float}
use lib.ListN.{get_or}
use Rattle.laws.specs.Determines.{Determines}
use Rattle.screen.specs.Plane.{Answered, answered}
use Rattle.screen.specs.declared.plane.Rgba.{Rgba}
use Rattle.screen.specs.declared.plane.WrongLength.{WrongLength}
use Rattle.std.specs.Prelude.{Result, Ok, Err}
use Rattle.execute.specs.Kept.{machine}
use Rattle.vpu.specs.declared.Answer.{Answer}
use Rattle.vpu.specs.declared.Answer.TheVariants as answer
use Rattle.vpu.specs.declared.Fed.{Fed}
use Rattle.vpu.specs.Calls.{Outcome, outcome, number_of}
use Rattle.run.proofs.Laws.{Same, machine_parts}
use Rattle.vpu.proofs.reset.Kinds as reset
use Rattle.vpu.proofs.reset.Reads as reset-reads
use Rattle.vpu.proofs.feed.Kinds as feed
use Rattle.vpu.proofs.feed.Reads as feed-reads
use Rattle.vpu.proofs.pixel.Kinds as pixel
use Rattle.vpu.proofs.pixel.Reads as pixel-reads

-- the three answers have three numbers
pub number_once : (a b : Answer) → number_of a ≡ number_of b → a ≡ b
number_once answer.Done answer.Done e = refl
number_once answer.Done answer.WrongLength e = absurd (omega arith)
number_once answer.Done answer.Malformed e = absurd (omega arith)
number_once answer.WrongLength answer.Done e = absurd (omega arith)
number_once answer.WrongLength answer.WrongLength e = refl
number_once answer.WrongLength answer.Malformed e = absurd (omega arith)
number_once answer.Malformed answer.Done e = absurd (omega arith)
number_once answer.Malformed answer.WrongLength e = absurd (omega arith)
number_once answer.Malformed answer.Malformed e = refl

-- two results with lent memories that are one outcome
module _ (x y : Fed) {P P' : List ℕ} {D D' : List ℤ} {F F' : List Float} {C C' T T' M M' : List ℕ} {o : Outcome}
    (p : outcome (number_of x.answer) (machine x.state P D F C T M) ≡ o) (q : outcome (number_of y.answer) (machine y.state P' D' F' C' T' M') ≡ o) where
  same : Same x.state P D F C T M y.state P' D' F' C' T' M'
  same = machine_parts (ap (λ (o : Outcome). o.machine) (p ∙ sym q))

  fed_once : x ≡ y
  fed_once = λ i. record { answer = number_once x.answer y.answer (ap (λ (o : Outcome). o.answer) (p ∙ sym q)) i; state = same.state-is i }

pub reset_once : Determines 6 reset.ps reset.r reset-reads.Learnt
reset_once κs a x y ws vs p q =
    let s = same x y p q in
    (fed_once x y p q, λ i. (s.plane-is i, (s.depth_is i, (s.floats_is i, (tt, (s.textures-is i, (s.models-is i, tt)))))))

pub feed_once : Determines 7 feed.ps feed.r feed-reads.Learnt
feed_once κs a x y ws vs p q =
    let s = same x y p q in
    (fed_once x y p q, λ i. (tt, (tt, (s.plane-is i, (s.depth_is i, (s.floats_is i, (s.command-is i, (s.textures-is i, (s.models-is i, tt)))))))))

-- an answer to pixel is its number and its four bytes
abbrev colour_in : List ℕ → Rgba
colour_in l = record { r = get_or l 0 0; g = get_or l 1 0; b = get_or l 2 0; a = get_or l 3 0 }

answered_once : (r r' : Result Rgba WrongLength) → answered r ≡ answered r' → r ≡ r'
answered_once (Ok c) (Ok d) e = ap (λ (a : Answered). Ok (colour_in a.bytes)) e
answered_once (Ok c) (Err d) e = let z : ◌≡◌ {A = ℕ} 0 1 = ap (λ (a : Answered). a.number) e in absurd (omega arith)
answered_once (Err c) (Ok d) e = let z : ◌≡◌ {A = ℕ} 1 0 = ap (λ (a : Answered). a.number) e in absurd (omega arith)
answered_once (Err c) (Err d) e = refl

pub pixel_once : Determines 1 pixel.ps pixel.r pixel-reads.Learnt
pixel_once κs a x y ws vs p q = (answered_once x y (p ∙ sym q), refl)
