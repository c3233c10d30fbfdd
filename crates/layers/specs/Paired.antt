-- What two flashes hold as one.
use Rattle.std.specs.Prelude.{◌≡◌, ◌+◌, ◌-◌, Bool, true, cond, ◌&&◌, ◌==◌, nat_le, nat_lt, Some, None, Option}
use Rattle.std.proofs.Common.{arith}
use Rattle.std.proofs.lemmas.Bool.{cond_both}
use Rattle.std.proofs.lemmas.Bool.Decides.{nat_tests}
use Rattle.flash.specs.Memory.{Memory, no_banks, no_banks_bounds, shape_of, Bounds}
use Rattle.flash.specs.declared.BlockAddress.{BlockAddress}
use Rattle.flash.specs.declared.Shape.{Shape}
use Rattle.flash.specs.Maps.{address}
use Rattle.layers.specs.declared.pair.Side.{Side}
use Rattle.layers.specs.declared.pair.Side.TheVariants.{First, Second}

-- two flashes of these shapes have blocks and pages alike, and no more banks together than a flash may have
abbrev pub shapes_matched : Shape → Shape → Bool
shapes_matched s t = s.blocks == t.blocks && (s.pages == t.pages && nat_le (s.banks + t.banks) 16)

abbrev pub matched : Memory → Memory → Bool
matched m n = shapes_matched (shape_of m) (shape_of n)

-- the banks of m, and then those of n
abbrev pub joined : Memory → Memory → Memory
joined m n = record {
  banks = m.banks + n.banks;
  blocks = m.blocks;
  depth = m.depth;
  at = λ b k. cond (nat_lt b m.banks) (m.at b k) (n.at (b - m.banks) k);
}

-- the flash that a pair shows
abbrev pub paired : Memory → Memory → Memory
paired m n = cond (matched m n) (joined m n) no_banks

-- the shapes of the two, where they match
abbrev pub matched_shapes : Memory → Memory → Option (Shape × Shape)
matched_shapes m n = cond (matched m n) (Some (shape_of m, shape_of n)) None

-- on which of the two, where they match, a block of the pair lies, and its address there
abbrev pub side_of : Memory → Memory → BlockAddress → Option Side
side_of m n at = cond (matched m n) (Some (cond (nat_lt at.bank m.banks) (First at) (Second (address (at.bank - m.banks) at.block)))) None

-- ---- the bounds, which the trait asks as a member
joined_bounds : (m n : Memory) → Bounds m → Bounds n → matched m n ≡ true → Bounds (joined m n)
joined_bounds m n bm bn e = record {
  banks = grind (arith, nat_tests);
  blocks = bm.blocks;
  depth = bm.depth;
  some = λ h. grind (arith, nat_tests);
  none = λ h. bm.none (omega arith);
  each = λ b k. grind (arith, nat_tests);
  outside = λ b k f. grind (arith, nat_tests);
}

pub paired_bounds : (m n : Memory) → Bounds m → Bounds n → Bounds (paired m n)
paired_bounds m n bm bn = cond_both (matched m n) (joined m n) no_banks Bounds (joined_bounds m n bm bn) (λ _. no_banks_bounds)
