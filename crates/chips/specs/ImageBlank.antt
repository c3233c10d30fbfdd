-- A blank image: what formatting writes, and the flash that it shows.
use Rattle.std.specs.Prelude.{ℕ, zero, suc, ◌*◌, ◌/◌, ◌%◌, cond, ◌&&◌, List, [], ◌∷◌, ◌++◌, replicate, nat_lt}
use Rattle.flash.specs.Memory.{Memory, no_block}
use Rattle.flash.specs.declared.Shape.{Shape}
use Rattle.chips.specs.Layout.{block_count}

-- what the record of a block starts with: the mark, and the lives with the low byte first
abbrev pub block_head : ℕ → List ℕ
block_head lives = 0x42 ∷ 0x4B ∷ (lives % 256) ∷ (lives / 256 % 256) ∷ []

-- the record of a blank block: the marks and the data of its pages are all FF
abbrev pub blank_block : Shape → ℕ → List ℕ
blank_block s lives = block_head lives ++ replicate (2050 * s.pages) 0xFF

-- the records of n blank blocks
abbrev pub blank_blocks : Shape → ℕ → ℕ → List ℕ
blank_blocks s lives zero = []
blank_blocks s lives (suc n) = blank_blocks s lives n ++ blank_block s lives

-- the header of an image
abbrev pub header : Shape → List ℕ
header s = 0x43 ∷ 0x49 ∷ 0x01 ∷ s.banks ∷ s.blocks ∷ s.pages ∷ []

-- a blank image of a shape, with these lives in every block
abbrev pub blank_image : Shape → ℕ → List ℕ
blank_image s lives = header s ++ blank_blocks s lives (block_count s)

-- the blank flash of a shape: no page stands, and every block has these lives
abbrev pub blank_flash : Shape → ℕ → Memory
blank_flash s lives = record {
  banks = s.banks;
  blocks = s.blocks;
  depth = s.pages;
  at = λ b k. cond (nat_lt b s.banks && nat_lt k s.blocks) (record { pages = []; lives = lives }) no_block;
}
