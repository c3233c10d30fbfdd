use Rattle.std.proofs.Common.{◌≡◌}
use Rattle.chips.proofs.BlankImage.{begun}
use Rattle.chips.proofs.image.CardImage.format.Given as goal

-- the header and the heads of the blocks before i are written, and all else is FF: no image yet
abbrev pub invariant-loop-i : goal.invariant-loop-i
invariant-loop-i l = l.bytes ≡ begun l.shape l.lives l.i
