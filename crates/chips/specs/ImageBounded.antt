-- That a card image keeps within the bounds of a flash: the trait asks for it as a member, so its proof stands here and not in proofs/.
use Rattle.std.specs.Prelude.{◌≡◌, ℕ, zero, suc, ◌+◌, ◌*◌, ◌<◌, ◌≤◌, true, false, ◌&&◌, List, [], length, ◌==◌, nat_lt, refl}
use Rattle.std.proofs.Common.{◌∙◌, ⊎_elim, ap, arith, subst, sym}
use Rattle.std.proofs.lemmas.List.{length-drop, length-take}
use Rattle.std.proofs.lemmas.List.FromFn.{get_or-map-range_with_len, length-map-range_with_len}
use Rattle.std.proofs.lemmas.Nat.{mul-le}
use Rattle.std.proofs.lemmas.Bool.{and_parts, cases_Bool, cond_both, cond-false, cond-true, eqb-true}
use Rattle.std.proofs.lemmas.Bool.Decides.{nat_tests}
use Rattle.flash.specs.Memory.{Bounds, SoundBlock, no_banks, no_banks_bounds, no_block}
use Rattle.flash.specs.declared.Shape.{Shape}
use Rattle.chips.specs.ImageLayout.{block_in, block_size, block_start, header_mark, image_length, image_sizes_fit, is_image, named_shape, page_in, page_start, block_record, shape_in, standing_in, stands, stored}
use Rattle.chips.specs.ImageMemory.{bytes_of, memory_of_image, shape_of_image}
use Rattle.chips.specs.Numbered.{numbered_bounds}
use Rattle.chips.specs.Layout.{block_count, shape_fits}
use Rattle.chips.specs.Shapes.{Ranges, no_shape, ranges_of}
use Rattle.chips.specs.declared.image.CardImage.{CardImage}

-- no more pages stand than there are
pub standing_most : (r : List ℕ) (n : ℕ) → standing_in r n ≤ n
standing_most r zero = omega arith
standing_most r (suc n) =
    cond_both (stands r n) (suc n) (standing_in r n) (λ x. x ≤ suc n) (λ _. omega arith) (λ _. omega (arith, standing_most r n))

-- a page that lies within the record of its block is 2,048 bytes long
page_long : (r : List ℕ) (p : ℕ) → page_start p + 2050 ≤ length r → length (page_in r p) ≡ 2048
page_long r p h = simp (length-drop, length-take, length-drop) (omega arith)

block_sound : (r : List ℕ) (depth : ℕ) → 4 + 2050 * depth ≤ length r → SoundBlock depth (block_in r depth)
block_sound r depth h =
    let n = standing_in r depth in
    let most = standing_most r depth in
    let e = length-map-range_with_len (page_in r) 0 n in
    record {
      standing = omega arith;
      long = λ p l. let u : p < n = omega arith in
          ap length (get_or-map-range_with_len (page_in r) 0 n p p [] u (omega arith)) ∙ page_long r p (omega arith);
      lives = omega arith;
    }

-- ---- what the test of the sizes tells
pub record ImageSizes (s : Shape) (bytes : List ℕ) : Type 0 where
  pub ranges : Ranges s
  pub long : length bytes ≡ image_length s

pub image_sizes_of : (s : Shape) (bytes : List ℕ) → image_sizes_fit s bytes ≡ true → ImageSizes s bytes
image_sizes_of s bytes e =
    let all = and_parts (shape_fits s) (length bytes == image_length s) e in
    record { ranges = ranges_of s all.0; long = eqb-true _ _ all.1 }

-- the record of each block lies within the image
pub block_ends : (s : Shape) (i : ℕ) → i < block_count s → block_start s i + block_size s ≤ image_length s
block_ends s i h = omega (arith, mul-le (i + 1) (block_size s) (block_count s) (block_size s) (omega arith) (omega arith))

pub block_within : (s : Shape) (bytes : List ℕ) (i : ℕ) → image_sizes_fit s bytes ≡ true → i < block_count s → block_start s i + block_size s ≤ length bytes
block_within s bytes i e h = let sizes = image_sizes_of s bytes e in omega (arith, block_ends s i h)

pub block_long : (s : Shape) (bytes : List ℕ) (i : ℕ) → image_sizes_fit s bytes ≡ true → i < block_count s → length (block_record s bytes i) ≡ block_size s
block_long s bytes i e h = let within = block_within s bytes i e h in simp (length-take, length-drop) (omega arith)

-- ---- what the shape of an image tells
-- the bytes are an image whose header names the shape s
pub record Named (s : Shape) (bytes : List ℕ) : Type 0 where
  pub image : is_image bytes ≡ true
  pub shape : s ≡ shape_in bytes
  pub sizes : image_sizes_fit s bytes ≡ true

pub named_by_image : (s : Shape) (bytes : List ℕ) → s ≡ named_shape bytes → is_image bytes ≡ true → Named s bytes
named_by_image s bytes named e =
    let shape = named ∙ cond-true (is_image bytes) (shape_in bytes) no_shape e in
    let parts = and_parts (header_mark bytes) _ e in
    record { image = e; shape = shape; sizes = ap (λ v. image_sizes_fit v bytes) shape ∙ (and_parts (image_sizes_fit (shape_in bytes) bytes) _ parts.1).0 }

-- a shape with banks is that of an image
pub named_by_banks : (s : Shape) (bytes : List ℕ) → s ≡ named_shape bytes → 0 < s.banks → Named s bytes
named_by_banks s bytes named h =
    ⊎_elim (named_by_image s bytes named)
    (λ no. absurd (omega (arith, ap (λ v. v.banks) (named ∙ cond-false (is_image bytes) (shape_in bytes) no_shape no))))
    (cases_Bool (is_image bytes))

no_bank : (b k : ℕ) → (nat_lt b 0 && nat_lt k 0) ≡ false
no_bank b k = grind (arith, nat_tests)

pub empty_stored : (bytes : List ℕ) → stored no_shape bytes ≡ no_banks
empty_stored bytes = λ t. record { banks = 0; blocks = 0; depth = 0; at = λ b k. cond-false (nat_lt b 0 && nat_lt k 0) (block_in (block_record no_shape bytes (b * 0 + k)) 0) no_block (no_bank b k) t }

-- a flash shown by an image whose shape is the one that opening finds
stored_bounds : (s : Shape) (bytes : List ℕ) → s ≡ named_shape bytes → Bounds (stored s bytes)
stored_bounds s bytes named =
    ⊎_elim
    (λ yes.
    let e = (named_by_image s bytes named yes).sizes in
    numbered_bounds s _ (image_sizes_of s bytes e).ranges (λ i h. block_sound (block_record s bytes i) s.pages (omega (arith, block_long s bytes i e h))))
    (λ no. subst Bounds (sym (ap (λ v. stored v bytes) (named ∙ cond-false (is_image bytes) (shape_in bytes) no_shape no) ∙ empty_stored bytes)) no_banks_bounds)
    (cases_Bool (is_image bytes))

pub image_bounds : (image : CardImage) → Bounds (memory_of_image image)
image_bounds image = stored_bounds (shape_of_image image) (bytes_of image) refl
