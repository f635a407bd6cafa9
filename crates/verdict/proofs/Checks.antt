-- Checks one after the other. Assumes nothing.
use Prim.Native.Nat.{ℕ}
use mathlib.Core.Path.{◌≡◌, refl}
use Rattle.verdict.specs.declared.Reason.{Reason}
use Rattle.std.specs.Prelude.{Ok, Err}
use Rattle.verdict.specs.Verdict.{Verdict, refused, done, and_then, when_done}

pub first_done : (a b : Verdict) → and_then a b ≡ done → a ≡ done
first_done (Ok u) b e = refl
first_done (Err x) b e = cc

pub next_done : (a b : Verdict) → and_then a b ≡ done → b ≡ done
next_done (Ok u) b e = e
next_done (Err x) b e = cc

pub and_assoc : (a b c : Verdict) → and_then (and_then a b) c ≡ and_then a (and_then b c)
and_assoc (Ok u) b c = refl
and_assoc (Err e) b c = refl

pub and_done : (a : Verdict) → and_then a done ≡ a
and_done (Ok u) = refl
and_done (Err e) = refl

-- a check of code that comes to w: if it refuses, the rest is not made, and if it finds nothing, the rest decides
module _ {v w : Verdict} (e : v ≡ w) where
  pub stopped : (next : Verdict) {reason : Reason} {index : ℕ} → v ≡ refused reason index → v ≡ and_then w next
  stopped next h = rw (← e, h)

  pub passed_on : {r next : Verdict} → v ≡ done → r ≡ next → r ≡ and_then w next
  passed_on h k = rw (← e, h) k

-- what is handed on of a refused draw
pub none-handed : {A : Type 0} (v : Verdict) {reason : Reason} {index : ℕ} (a b : A) → v ≡ refused reason index → b ≡ when_done v a b
none-handed v a b h = rw h
