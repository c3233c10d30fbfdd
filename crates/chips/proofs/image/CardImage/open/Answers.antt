use Rattle.std.proofs.Common.{refl, sym}
use Rattle.chips.specs.ImageReopens.{image_reopens}
use Rattle.chips.proofs.image.CardImage.open.Goals as goal

pub returns : goal.returns
returns c =
    let same = image_reopens c.args.bytes.now in
    record { memory = sym same; bytes = refl; shape = refl; reopens = same }
