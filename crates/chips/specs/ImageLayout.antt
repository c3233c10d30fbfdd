-- How the bytes of a card image make a flash.
use Rattle.std.specs.Prelude.{◌≡◌, ℕ, zero, suc, ◌+◌, ◌-◌, ◌*◌, ◌<◌, ◌≤◌, min, Bool, true, cond, ◌&&◌, List, [], ◌∷◌, ◌++◌, map, length, take, drop, ◌==◌, nat_eq, nat_lt, slice_index}
use Rattle.std.specs.List.{range_with_len, starts_with}
use Rattle.std.specs.declared.ops.Range.{Range}
use Rattle.flash.specs.Calls.{erase_number, program_number, spot}
use Rattle.flash.specs.Memory.{Memory, Block, no_banks}
use Rattle.flash.specs.Tables.{unless_refused}
use Rattle.flash.specs.declared.Shape.{Shape}
use Rattle.chips.specs.ImageBlank.{blank_block}
use Rattle.chips.specs.Numbered.{numbered}
use Rattle.chips.specs.Layout.{block_count, shape_fits}
use Rattle.chips.specs.Shapes.{no_shape}

-- ---- where things lie
-- how many bytes the record of a block has: its mark, its lives, and the records of its pages
abbrev pub block_size : Shape → ℕ
block_size s = 4 + 2050 * s.pages

-- how many bytes an image has: the header, and the records of all blocks
abbrev pub image_length : Shape → ℕ
image_length s = 6 + block_count s * block_size s

-- where the record of the block with the number i starts, counted from 0 over the whole image
abbrev pub block_start : Shape → ℕ → ℕ
block_start s i = 6 + i * block_size s

-- the record of that block
abbrev pub block_record : Shape → List ℕ → ℕ → List ℕ
block_record s bytes i = take (block_size s) (drop (block_start s i) bytes)

-- where the record of the page p starts, in the record of its block
abbrev pub page_start : ℕ → ℕ
page_start p = 4 + p * 2050

-- the record of that page: its mark and its data
abbrev pub page_record : List ℕ → ℕ → List ℕ
page_record r p = take 2050 (drop (page_start p) r)

-- ---- marks
-- the bytes start with the mark
abbrev pub is_marked : List ℕ → List ℕ → Bool
is_marked bytes mark = starts_with nat_eq bytes mark

abbrev pub block_mark : List ℕ
block_mark = 0x42 ∷ 0x4B ∷ []

abbrev pub standing_mark : List ℕ
standing_mark = 0x50 ∷ 0x47 ∷ []

abbrev pub blank_mark : List ℕ
blank_mark = 0xFF ∷ 0xFF ∷ []

-- ---- what a block is, by its record
-- its lives, in the two bytes after the mark, the low one first; no two bytes are more than 65535, and `min` only says so of numbers that are no bytes
abbrev pub lives_in : List ℕ → ℕ
lives_in r = min (slice_index r 2 + slice_index r 3 * 256) 65535

-- its page p is marked as standing
abbrev pub stands : List ℕ → ℕ → Bool
stands r p = is_marked (page_record r p) standing_mark

-- how many of its first n pages stand: those up to the last that is marked as standing
abbrev pub standing_in : List ℕ → ℕ → ℕ
standing_in r zero = 0
standing_in r (suc n) = cond (stands r n) (suc n) (standing_in r n)

-- the bytes of its page p, after the mark
abbrev pub page_in : List ℕ → ℕ → List ℕ
page_in r p = drop 2 (page_record r p)

-- the block, of so many pages
abbrev pub block_in : List ℕ → ℕ → Block
block_in r depth = record {
  pages = map (page_in r) (range_with_len 0 (standing_in r depth));
  lives = lives_in r;
}

-- the flash of these bytes, with that shape
abbrev pub stored : Shape → List ℕ → Memory
stored s bytes = numbered s (λ i. block_in (block_record s bytes i) s.pages)

-- ---- which bytes are an image
-- the mark of an image, and the version of its format
abbrev pub header_mark : List ℕ → Bool
header_mark bytes = is_marked bytes (0x43 ∷ 0x49 ∷ 0x01 ∷ [])

-- the shape that the header names
abbrev pub shape_in : List ℕ → Shape
shape_in bytes = record { banks = slice_index bytes 3; blocks = slice_index bytes 4; pages = slice_index bytes 5 }

-- the page p of a block in which n pages stand is marked as standing where it is one of them, and otherwise as blank
abbrev pub mark_fits : List ℕ → ℕ → ℕ → Bool
mark_fits r n p = is_marked (page_record r p) (cond (nat_lt p n) standing_mark blank_mark)

-- the first m pages have such marks
abbrev pub pages_fit : List ℕ → ℕ → ℕ → Bool
pages_fit r n zero = true
pages_fit r n (suc m) = pages_fit r n m && mark_fits r n m

-- a record has the mark of a block, and of its pages none that stands follows a blank one
abbrev pub block_fits : List ℕ → ℕ → Bool
block_fits r depth = is_marked r block_mark && pages_fit r (standing_in r depth) depth

-- the records of the first n blocks fit
abbrev pub blocks_fit : Shape → List ℕ → ℕ → Bool
blocks_fit s bytes zero = true
blocks_fit s bytes (suc n) = blocks_fit s bytes n && block_fits (block_record s bytes n) s.pages

-- a shape that a flash can have, and just the bytes that it needs
abbrev pub image_sizes_fit : Shape → List ℕ → Bool
image_sizes_fit s bytes = shape_fits s && length bytes == image_length s

-- the bytes are an image
abbrev pub is_image : List ℕ → Bool
is_image bytes = header_mark bytes && (image_sizes_fit (shape_in bytes) bytes && blocks_fit (shape_in bytes) bytes (block_count (shape_in bytes)))

-- the shape that the header names where the bytes are an image, and otherwise no banks
abbrev pub named_shape : List ℕ → Shape
named_shape bytes = cond (is_image bytes) (shape_in bytes) no_shape

-- the flash that opening these bytes shows
abbrev pub opened : List ℕ → Memory
opened bytes = cond (is_image bytes) (stored (shape_in bytes) bytes) no_banks

-- ---- what the calls make of the bytes
-- the bytes with `new` from the place n on
abbrev pub put : ℕ → List ℕ → List ℕ → List ℕ
put n new bytes = take n bytes ++ new ++ drop (n + length new) bytes

-- a record whose page p is marked as standing, and has this data after the mark
abbrev pub with_page : List ℕ → ℕ → List ℕ → List ℕ
with_page r p page = put (page_start p) (standing_mark ++ page) r

-- the bytes with another record for the block with the number i
abbrev pub with_record : Shape → List ℕ → ℕ → List ℕ → List ℕ
with_record s bytes i r = put (block_start s i) r bytes

-- the bytes after a program, and after an erase, of the block k of the bank b: an erased block keeps its mark, has a life less, and FF in all marks and data of its pages
abbrev pub programmed_bytes : Shape → List ℕ → ℕ → ℕ → ℕ → List ℕ → List ℕ
programmed_bytes s bytes b k p page =
    let i = b * s.blocks + k in
    unless_refused (program_number (spot (stored s bytes) b k) p page) (with_record s bytes i (with_page (block_record s bytes i) p page)) bytes

abbrev pub erased_bytes : Shape → List ℕ → ℕ → ℕ → List ℕ
erased_bytes s bytes b k =
    let i = b * s.blocks + k in
    unless_refused (erase_number (spot (stored s bytes) b k)) (with_record s bytes i (blank_block s (lives_in (block_record s bytes i) - 1))) bytes

-- ---- what the private functions tell
-- the image shows the block k of the bank b
pub record Shown (s : Shape) (bytes : List ℕ) (b k : ℕ) : Type 0 where
  pub sizes : image_sizes_fit s bytes ≡ true
  pub bank : b < s.banks
  pub block : k < s.blocks

-- and its record lies at this place
pub record FoundAt (s : Shape) (bytes : List ℕ) (b k : ℕ) (place : Range ℕ) : Type 0 where
  pub shown : Shown s bytes b k
  pub start : place.start ≡ block_start s (b * s.blocks + k)
  pub end : place.end ≡ place.start + block_size s
  pub within : place.end ≤ length bytes

-- and this is its record
pub record SeenAt (s : Shape) (bytes : List ℕ) (b k : ℕ) (r : List ℕ) : Type 0 where
  pub shown : Shown s bytes b k
  pub same : r ≡ block_record s bytes (b * s.blocks + k)
  pub long : length r ≡ block_size s
