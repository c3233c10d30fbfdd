-- How the bytes and the records of a bare chip make a flash.
use Rattle.std.specs.Prelude.{◌≡◌, ℕ, ◌+◌, ◌*◌, ◌<◌, ◌≤◌, Bool, true, cond, ◌&&◌, List, map, length, take, drop, ◌==◌, nat_le, nat_lt, slice_index_or}
use Rattle.std.specs.List.{list_all, range_with_len}
use Rattle.flash.specs.Memory.{Memory, Block, no_banks}
use Rattle.flash.specs.declared.Shape.{Shape}
use Rattle.chips.specs.Numbered.{numbered}
use Rattle.chips.specs.Shapes.{FlashShape}
use Rattle.chips.specs.declared.record.BlockRecord.{BlockRecord}
pub use Rattle.chips.specs.Shapes.{block_count, shape_fits}

-- what a chip is made of: its shape, the bytes of its pages, and a record for each block
pub record Parts : Type 0 where
  pub shape : Shape
  pub bytes : List ℕ
  pub records : List BlockRecord

-- the parts of a chip with this shape over these bytes and records
abbrev pub made_of : Shape → List ℕ → List BlockRecord → Parts
made_of shape bytes records = record { shape = shape; bytes = bytes; records = records }

-- ---- the layout: bank by bank, block by block, page by page
-- the page with the number j, counted from 0 over the whole chip
abbrev pub page_at : List ℕ → ℕ → List ℕ
page_at bytes j = take 2048 (drop (j * 2048) bytes)

-- the first n pages of the block with the number i, counted from 0 over the whole chip
abbrev pub pages_at : Parts → ℕ → ℕ → List (List ℕ)
pages_at c i n = map (λ p. page_at c.bytes (i * c.shape.pages + p)) (range_with_len 0 n)

-- the block with the number i, if r is its record
abbrev pub block_of : Parts → ℕ → BlockRecord → Block
block_of c i r = record { pages = pages_at c i r.standing; lives = r.lives }

-- stands for a record past the last
abbrev pub no_record : BlockRecord
no_record = record { standing = 0; lives = 0 }

-- the record of the block with the number i
abbrev pub record_at : List BlockRecord → ℕ → BlockRecord
record_at records i = slice_index_or records i no_record

-- the block with the number i
abbrev pub block_at : Parts → ℕ → Block
block_at c i = block_of c i (record_at c.records i)

-- the flash of these parts
abbrev pub laid_out : Parts → Memory
laid_out c = numbered c.shape (block_at c)

-- ---- which parts make a flash
-- there is just one record for each block
abbrev pub records_fit : Parts → Bool
records_fit c = length c.records == block_count c.shape

-- there are just the bytes of all pages
abbrev pub bytes_fit : Parts → Bool
bytes_fit c = length c.bytes == block_count c.shape * c.shape.pages * 2048

-- the shape, the number of records and the number of bytes fit one another
abbrev pub sizes_fit : Parts → Bool
sizes_fit c = shape_fits c.shape && (records_fit c && bytes_fit c)

-- no record counts more standing pages than a block has
abbrev pub counts_fit : ℕ → List BlockRecord → Bool
counts_fit depth records = list_all (λ r. nat_le r.standing depth) records

-- no record counts more lives than a `u16` holds
abbrev pub lives_fit : List BlockRecord → Bool
lives_fit records = list_all (λ r. nat_lt r.lives 65536) records

-- the parts make a flash with banks
abbrev pub all_fit : Parts → Bool
all_fit c = sizes_fit c && (counts_fit c.shape.pages c.records && lives_fit c.records)

-- the flash that a new chip shows: that of its parts if all fits, and otherwise no banks
abbrev pub new_memory : Parts → Memory
new_memory c = cond (sizes_fit c && counts_fit c.shape.pages c.records) (laid_out c) no_banks

-- ---- what holds of the parts of every chip
-- the shape is that of a flash, and each of its blocks has its bytes and its record, which counts no more standing pages than a block has
-- and no more lives than a `u16` holds: a proof learns that of one record in a call that takes it, and so it stands here, for all of them.
-- A chip with banks has no other bytes and records
pub record Whole (c : Parts) : Type 0 where
  pub shape : FlashShape c.shape
  pub bytes : block_count c.shape * c.shape.pages * 2048 ≤ length c.bytes
  pub records : block_count c.shape ≤ length c.records
  pub counts : (i : ℕ) → i < block_count c.shape → (record_at c.records i).standing ≤ c.shape.pages
  pub lives : (i : ℕ) → i < block_count c.shape → (record_at c.records i).lives < 65536
  pub sizes : 0 < c.shape.banks → sizes_fit c ≡ true

-- ---- what the chip's private functions tell
-- the chip shows the block k of the bank b, and its number over the whole chip is i; the last two facts follow from those above and from
-- the chip's type, and stand here for the arithmetic of the calls
pub record Found (s : Shape) (b k i : ℕ) : Type 0 where
  pub bank : b < s.banks
  pub block : k < s.blocks
  pub number : i ≡ b * s.blocks + k
  pub counted : i < block_count s
  pub few : block_count s ≤ 1024
