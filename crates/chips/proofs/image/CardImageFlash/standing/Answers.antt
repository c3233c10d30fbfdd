use Rattle.std.proofs.Common.{sym}
use Rattle.chips.specs.ImageMemory.{shape_of_image}
use Rattle.chips.proofs.ImageCalls.{shown_standing}
use Rattle.chips.proofs.image.CardImageFlash.standing.Goals as goal

pub returns : goal.returns
returns c =
    let seen = c.in_ok-block.ensures in
    sym (shown_standing seen.shown _ seen.same _ (c.standing.ensures (shape_of_image c.args.self.now).pages seen.long))
