-- The maps of numbers on which two layers rest: how a byte is whitened, and where a replaced block is found.
use Rattle.std.specs.Prelude.{ℕ, ◌+◌, ◌-◌, ◌*◌, ◌%◌, Bool, cond, not, ◌&&◌, List, length, ◌==◌, bit_xor, slice_index}
use Rattle.std.specs.List.{filter, list_any, range_with_len}
use Rattle.flash.specs.declared.BlockAddress.{BlockAddress}

-- ---- whitening
-- the mask of a byte: by its position in the page, the page, the block and the bank
abbrev pub mask : ℕ → ℕ → ℕ → ℕ → ℕ
mask bank block page position = (position + 37 * page + 101 * block + 11 * bank) % 256

-- a byte of a standing page, as it is stored
abbrev pub whitened_byte : ℕ → ℕ → ℕ → ℕ → ℕ → ℕ
whitened_byte bank block page position byte = bit_xor byte (mask bank block page position)

-- ---- replacing: of K blocks in a bank the last S are spares, and some blocks are bad
-- the block with this number in the bank
abbrev pub address : ℕ → ℕ → BlockAddress
address bank block = record { bank = bank; block = block }

-- the list of bad blocks has this one
abbrev pub is_bad : List BlockAddress → ℕ → ℕ → Bool
is_bad bad bank block = list_any (λ at. at.bank == bank && at.block == block) bad

-- of these blocks of a bank, those that are bad
abbrev pub bad_of : List BlockAddress → ℕ → List ℕ → List ℕ
bad_of bad bank blocks = filter (λ k. is_bad bad bank k) blocks

-- and those that are not
abbrev pub good_of : List BlockAddress → ℕ → List ℕ → List ℕ
good_of bad bank blocks = filter (λ k. not (is_bad bad bank k)) blocks

-- where a shown block is found: a good one is itself, and the bad ones, rising, take the bank's good spares, rising
abbrev pub replaced_block : ℕ → ℕ → List BlockAddress → ℕ → ℕ → ℕ
replaced_block blocks spares bad bank block =
    cond (is_bad bad bank block)
    (slice_index (good_of bad bank (range_with_len (blocks - spares) spares)) (length (bad_of bad bank (range_with_len 0 block))))
    block
