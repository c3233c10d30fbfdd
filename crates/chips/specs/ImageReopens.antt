-- That opening an image's bytes again shows what the image shows. The type of an image says it, so it holds after any calls.
use Rattle.std.specs.Prelude.{◌≡◌, ℕ, List, refl}
use Rattle.std.proofs.Common.{◌∙◌, ⊎_elim, ap, sym}
use Rattle.std.proofs.lemmas.Bool.{cases_Bool, cond-false, cond-true}
use Rattle.flash.specs.Memory.{no_banks}
use Rattle.flash.specs.declared.Shape.{Shape}
use Rattle.chips.specs.ImageBounded.{empty_stored, named_by_image}
use Rattle.chips.specs.ImageLayout.{is_image, named_shape, opened, shape_in, stored}
use Rattle.chips.specs.ImageMemory.{Reopens, bytes_of, shape_of_image}
use Rattle.chips.specs.Shapes.{no_shape}
use Rattle.chips.specs.declared.image.CardImage.{CardImage}

-- bytes with the shape that opening finds show what opening shows
pub reopens : (s : Shape) (bytes : List ℕ) → s ≡ named_shape bytes → opened bytes ≡ stored s bytes
reopens s bytes named =
    ⊎_elim
    (λ yes. cond-true (is_image bytes) _ no_banks yes ∙ ap (λ v. stored v bytes) (sym (named_by_image s bytes named yes).shape))
    (λ no.
    cond-false (is_image bytes) _ no_banks no
    ∙ (sym (empty_stored bytes) ∙ ap (λ v. stored v bytes) (sym (named ∙ cond-false (is_image bytes) (shape_in bytes) no_shape no))))
    (cases_Bool (is_image bytes))

pub image_reopens : (image : CardImage) → Reopens image
image_reopens image = reopens (shape_of_image image) (bytes_of image) refl
