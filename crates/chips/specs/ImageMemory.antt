-- The flash that a card image shows.
use Rattle.std.specs.Prelude.{◌≡◌, ℕ, List}
use Rattle.flash.specs.Memory.{Memory}
use Rattle.flash.specs.declared.Shape.{Shape}
use Rattle.chips.specs.ImageLayout.{named_shape, opened, stored}
use Rattle.chips.specs.declared.image.CardImage.{CardImage}

abbrev pub bytes_of : CardImage → List ℕ
bytes_of image = image

-- the shape that the header names, or that of no banks: the type keeps it beside the bytes
abbrev pub shape_of_image : CardImage → Shape
shape_of_image image = named_shape (bytes_of image)

-- the marks of the header and of the blocks were looked at when the image was opened, and no call changes them
abbrev pub memory_of_image : CardImage → Memory
memory_of_image image = stored (shape_of_image image) (bytes_of image)

-- opening the image's bytes again shows what it shows now
abbrev pub Reopens : CardImage → Type 0
Reopens image = opened (bytes_of image) ≡ memory_of_image image
