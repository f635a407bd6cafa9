-- How much is how much: nothing, if that is said, and else all, if that is.
use Rattle.std.specs.Prelude.{Bool, true, false}
use Rattle.tell.specs.declared.amount.Amount.{Amount}
use Rattle.tell.specs.declared.amount.Amount.TheVariants.{Nothing, Part, All}

abbrev pub amount_of : Bool → Bool → Amount
amount_of true all = Nothing
amount_of false true = All
amount_of false false = Part
