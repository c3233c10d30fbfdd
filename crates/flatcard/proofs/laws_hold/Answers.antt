use Rattle.flatcard.proofs.LawsHold.{laws}
use Rattle.flatcard.proofs.laws_hold.Goals as goal

pub returns : goal.returns
returns c = laws
