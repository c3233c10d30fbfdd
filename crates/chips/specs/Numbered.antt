-- Flashes whose blocks are numbered from 0 on, bank by bank.
use Rattle.std.specs.Prelude.{ℕ, ◌+◌, ◌*◌, ◌<◌, cond, ◌&&◌, nat_lt}
use Rattle.std.proofs.Common.{arith}
use Rattle.std.proofs.lemmas.Nat.{mul-add-lt}
use Rattle.std.proofs.lemmas.Bool.{and_parts, cond_both, cond-false, ltb-true}
use Rattle.flash.specs.Memory.{Memory, Block, Bounds, SoundBlock, no_block, no_block_sound}
use Rattle.flash.specs.declared.Shape.{Shape}
use Rattle.chips.specs.Shapes.{FlashShape, Ranges, block_count, ranged_shape}

-- the flash of this shape whose block with the number i is `f i`: the block k of the bank b has the number b * blocks + k
abbrev pub numbered : Shape → (ℕ → Block) → Memory
numbered s f = record {
  banks = s.banks;
  blocks = s.blocks;
  depth = s.pages;
  at = λ b k. cond (nat_lt b s.banks && nat_lt k s.blocks) (f (b * s.blocks + k)) no_block;
}

-- the number of a block is below the number of blocks
pub number_below : (b k banks blocks : ℕ) → b < banks → k < blocks → b * blocks + k < banks * blocks
number_below b k banks blocks h l = omega (arith, mul-add-lt b blocks k banks h l)

-- that it keeps within the bounds of a flash, if its shape and its blocks do
pub shaped_bounds : (s : Shape) (f : ℕ → Block) → FlashShape s → ((i : ℕ) → i < block_count s → SoundBlock s.pages (f i)) → Bounds (numbered s f)
shaped_bounds s f shaped sound = record {
  banks = shaped.few_banks;
  blocks = shaped.few_blocks;
  depth = shaped.few_pages;
  some = shaped.some;
  none = shaped.none;
  each = λ b k. cond_both (nat_lt b s.banks && nat_lt k s.blocks) (f (b * s.blocks + k)) no_block (SoundBlock s.pages)
      (λ e. let p = and_parts (nat_lt b s.banks) (nat_lt k s.blocks) e in
      sound (b * s.blocks + k) (number_below b k s.banks s.blocks (ltb-true b s.banks p.0) (ltb-true k s.blocks p.1)))
      (λ _. no_block_sound s.pages);
  outside = λ b k e. cond-false (nat_lt b s.banks && nat_lt k s.blocks) (f (b * s.blocks + k)) no_block e;
}

pub numbered_bounds : (s : Shape) (f : ℕ → Block) → Ranges s → ((i : ℕ) → i < block_count s → SoundBlock s.pages (f i)) → Bounds (numbered s f)
numbered_bounds s f ranges = shaped_bounds s f (ranged_shape ranges)
