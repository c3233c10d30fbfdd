use Rattle.std.proofs.Common.{sym, arith}
use Rattle.chips.proofs.Blocks.{found_standing}
use Rattle.chips.proofs.bare.BareChipFlash.standing.Goals as goal

pub returns : goal.returns
returns c = sym (found_standing c.self.view_is c.self.invariant c.in_ok-i.ensures.number (omega arith))
