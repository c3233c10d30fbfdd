use Rattle.std.proofs.Common.{sym}
use Rattle.chips.proofs.Blocks.{found_lives}
use Rattle.chips.proofs.bare.BareChipFlash.lives.Goals as goal

pub returns : goal.returns
returns c = sym (found_lives c.self.view_is c.self.invariant c.in_ok-i.ensures.number)
