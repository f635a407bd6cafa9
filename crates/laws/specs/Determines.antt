-- When a contract leaves one outcome. It is said about the contract as the checker has it: `Learnt`, in the module `Reads` of a function, is what its `ensures` says to a caller. Definitions only.
use Rattle.std.specs.Prelude.{ℕ, ◌≡◌, List}
use contract.Lifetimes.{Lfts}
use denote.Triple.Clauses.{Lasts, at_exit}
use borrow.Fn.Kind.{ParamKind, ResultKind}
use borrow.Fn.Kinds.{Out, Dens, res_t, ended_of}

-- for n lifetimes, parameters ps and a result r: two results of the same arguments a are equal if both satisfy the contract, and so is what is behind every `&mut` afterwards (ws and vs)
abbrev pub Determines : (n : ℕ) (ps : List (ParamKind n)) (r : ResultKind n) → Out n ps r → Type 0
Determines n ps r Learnt = (κs : Lfts n) (a : Dens κs ps) (x y : (res_t r κs).Denot) (ws vs : Lasts (ended_of n ps r) κs a)
    → Learnt κs a x (at_exit (ended_of n ps r) κs a ws) → Learnt κs a y (at_exit (ended_of n ps r) κs a vs) → (x ≡ y) × (ws ≡ vs)
