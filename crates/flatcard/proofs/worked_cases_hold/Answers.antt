use Rattle.flatcard.proofs.CasesHold.{worked_cases}
use Rattle.flatcard.proofs.worked_cases_hold.Goals as goal

pub returns : goal.returns
returns c = worked_cases
