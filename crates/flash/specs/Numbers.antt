-- The numbers of a flash's refusals.
use Rattle.std.specs.Prelude.{ℕ, Ok, Err, Result}
use Rattle.flash.specs.declared.Refusal.{Refusal}
use Rattle.flash.specs.declared.Refusal.TheVariants.{Outside, Length, Order, Blank, Worn}

abbrev pub number : Refusal → ℕ
number Outside = 1
number Length = 2
number Order = 3
number Blank = 4
number Worn = 5

-- what a call answers, as a number: 0 where it is accepted
abbrev pub answer : {A : Type 0} → Result A Refusal → ℕ
answer (Ok _) = 0
answer (Err e) = number e
