-- Is every element of a memory the one value? A float by its bits.
use Rattle.std.specs.Prelude.{ℕ, ℤ, Bool, List, ◌==◌, to_bits, Float}
use Rattle.std.specs.List.{list_all}
use Rattle.std.specs.Ordering.{int_eq}
use Rattle.std.specs.Float.{binary32}

abbrev pub all_nats : ℕ → List ℕ → Bool
all_nats v s = list_all (λ x. x == v) s

abbrev pub all_ints : ℤ → List ℤ → Bool
all_ints v s = list_all (λ x. int_eq x v) s

abbrev pub all_floats : ℕ → List Float → Bool
all_floats bits s = list_all (λ x. to_bits binary32 x == bits) s
