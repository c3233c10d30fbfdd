-- What a flash holds, and what holds of every flash.
use Rattle.std.specs.Prelude.{◌≡◌, ℕ, ◌<◌, ◌≤◌, Bool, false, ◌&&◌, List, [], length, nat_lt, slice_index_or, refl}
use Rattle.std.proofs.Common.{arith}
use Rattle.flash.specs.declared.Shape.{Shape}

-- a block: its standing pages, those programmed since its last erase, first to last, each the list of its bytes;
-- and its lives, the erases that it can still take
pub record Block : Type 0 where
  pub pages : List (List ℕ)
  pub lives : ℕ

-- a flash: how many banks, blocks in each bank and pages in each block (its depth), and the block at a bank and a number
pub record Memory : Type 0 where
  pub banks : ℕ
  pub blocks : ℕ
  pub depth : ℕ
  pub at : ℕ → ℕ → Block

-- what stands for a block that is not there
abbrev pub no_block : Block
no_block = record { pages = []; lives = 0 }

-- a flash with no banks
abbrev pub no_banks : Memory
no_banks = record { banks = 0; blocks = 0; depth = 0; at = λ b k. no_block }

abbrev pub shape_of : Memory → Shape
shape_of m = record { banks = m.banks; blocks = m.blocks; pages = m.depth }

-- in a flash of this shape the bank b has a block k
abbrev pub in_shape : Shape → ℕ → ℕ → Bool
in_shape s b k = nat_lt b s.banks && nat_lt k s.blocks

-- the bank b has a block k
abbrev pub inside : Memory → ℕ → ℕ → Bool
inside m b k = in_shape (shape_of m) b k

-- a block has at most as many standing pages as its depth, each of 2,048 bytes, and at most 65,535 lives
pub record SoundBlock (depth : ℕ) (v : Block) : Type 0 where
  pub standing : length v.pages ≤ depth
  pub long : (p : ℕ) → p < length v.pages → length (slice_index_or v.pages p []) ≡ 2048
  pub lives : v.lives < 65536

-- at most 16 banks, with 1 to 64 blocks and pages if there is a bank and none otherwise; sound blocks; and one block for all that are outside
pub record Bounds (m : Memory) : Type 0 where
  pub banks : m.banks ≤ 16
  pub blocks : m.blocks ≤ 64
  pub depth : m.depth ≤ 64
  pub some : 0 < m.banks → (0 < m.blocks) × (0 < m.depth)
  pub none : m.banks ≡ 0 → (m.blocks ≡ 0) × (m.depth ≡ 0)
  pub each : (b k : ℕ) → SoundBlock m.depth (m.at b k)
  pub outside : (b k : ℕ) → inside m b k ≡ false → m.at b k ≡ no_block

pub no_block_sound : (depth : ℕ) → SoundBlock depth no_block
no_block_sound depth = record { standing = omega arith; long = λ p h. absurd (omega arith); lives = omega arith }

pub no_banks_bounds : Bounds no_banks
no_banks_bounds = record {
  banks = omega arith;
  blocks = omega arith;
  depth = omega arith;
  some = λ h. absurd (omega arith);
  none = λ h. (refl, refl);
  each = λ b k. no_block_sound 0;
  outside = λ b k e. refl;
}
