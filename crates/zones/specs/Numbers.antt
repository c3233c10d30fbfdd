-- The numbers of the card's refusals and of the zones' states, and what a call answers.
use Rattle.std.specs.Prelude.{ℕ, Ok, Err, Result}
use Rattle.flatcard.specs.Card.{Answer, refused, done, Line}
use Rattle.zones.specs.declared.refusal.CardRefusal.{CardRefusal}
use Rattle.zones.specs.declared.refusal.CardRefusal.TheVariants.{Unformed, Formed, Shape, Printed, Length, Range, State, Pointer, Kept, OpenLimit, NoGroup}
use Rattle.zones.specs.declared.refusal.Done.{Done}
use Rattle.zones.specs.declared.report.ZoneReport.{ZoneReport}
use Rattle.zones.specs.declared.state.State.{State as StateOf}
use Rattle.zones.specs.declared.state.State.TheVariants.{Empty, Open, Full, Threaded}

abbrev pub refusal_number : CardRefusal → ℕ
refusal_number Unformed = 11
refusal_number Formed = 12
refusal_number Shape = 13
refusal_number Printed = 14
refusal_number Length = 15
refusal_number Range = 16
refusal_number State = 17
refusal_number Pointer = 18
refusal_number Kept = 19
refusal_number OpenLimit = 20
refusal_number NoGroup = 21

abbrev pub state_number : StateOf → ℕ
state_number Empty = 0
state_number Open = 1
state_number Full = 2
state_number Threaded = 3

-- what a call answers, as the flat card answers it
abbrev pub answer_of : Result Done CardRefusal → Answer
answer_of (Ok d) = done d.programmed d.copied d.erased
answer_of (Err e) = refused (refusal_number e)

-- the same of a call that answers no numbers: 0 where it is accepted
abbrev pub number_of : {A : Type 0} → Result A CardRefusal → ℕ
number_of (Ok _) = 0
number_of (Err e) = refusal_number e

-- a line of a report, as the flat card has it
abbrev pub line_of : ZoneReport → Line
line_of r = record { state = state_number r.state; start = r.start; pointer = r.pointer }
