-- The shapes that a chip can have.
use Rattle.std.specs.Prelude.{◌≡◌, ℕ, ◌*◌, ◌<◌, ◌≤◌, Bool, true, ◌&&◌, nat_le, nat_lt}
use Rattle.std.proofs.Common.{arith}
use Rattle.std.proofs.lemmas.Nat.{mul-le}
use Rattle.std.proofs.lemmas.Bool.{and_parts, leb-true, ltb-true}
use Rattle.flash.specs.declared.Shape.{Shape}

-- the shape of a flash with no banks
abbrev pub no_shape : Shape
no_shape = record { banks = 0; blocks = 0; pages = 0 }

-- how many blocks there are in all banks
abbrev pub block_count : Shape → ℕ
block_count s = s.banks * s.blocks

-- n is from 1 to `most`
abbrev pub in_range : ℕ → ℕ → Bool
in_range n most = nat_lt 0 n && nat_le n most

-- the shape is one that a flash with banks can have
abbrev pub shape_fits : Shape → Bool
shape_fits s = in_range s.banks 16 && (in_range s.blocks 64 && in_range s.pages 64)

-- ---- what the test of a shape tells
pub record Ranges (s : Shape) : Type 0 where
  pub some_banks : 0 < s.banks
  pub few_banks : s.banks ≤ 16
  pub some_blocks : 0 < s.blocks
  pub few_blocks : s.blocks ≤ 64
  pub some_pages : 0 < s.pages
  pub few_pages : s.pages ≤ 64

ranged : (n most : ℕ) → in_range n most ≡ true → (0 < n) × (n ≤ most)
ranged n most e = let p = and_parts (nat_lt 0 n) (nat_le n most) e in (ltb-true 0 n p.0, leb-true n most p.1)

pub ranges_of : (s : Shape) → shape_fits s ≡ true → Ranges s
ranges_of s e =
    let banks = and_parts (in_range s.banks 16) (in_range s.blocks 64 && in_range s.pages 64) e in
    let blocks = and_parts (in_range s.blocks 64) (in_range s.pages 64) banks.1 in
    let x = ranged s.banks 16 banks.0 in
    let y = ranged s.blocks 64 blocks.0 in
    let z = ranged s.pages 64 blocks.1 in
    record { some_banks = x.0; few_banks = x.1; some_blocks = y.0; few_blocks = y.1; some_pages = z.0; few_pages = z.1 }

pub few_in_all : (s : Shape) → Ranges s → block_count s ≤ 1024
few_in_all s ranges = omega (arith, mul-le s.banks s.blocks 16 64 ranges.few_banks ranges.few_blocks)

-- ---- the shape of any flash: in the ranges, or without banks
pub record FlashShape (s : Shape) : Type 0 where
  pub few_banks : s.banks ≤ 16
  pub few_blocks : s.blocks ≤ 64
  pub few_pages : s.pages ≤ 64
  pub some : 0 < s.banks → (0 < s.blocks) × (0 < s.pages)
  pub none : s.banks ≡ 0 → (s.blocks ≡ 0) × (s.pages ≡ 0)

pub ranged_shape : {s : Shape} → Ranges s → FlashShape s
ranged_shape ranges = record {
  few_banks = ranges.few_banks;
  few_blocks = ranges.few_blocks;
  few_pages = ranges.few_pages;
  some = λ _. (ranges.some_blocks, ranges.some_pages);
  none = λ z. absurd (omega (arith, ranges.some_banks));
}
