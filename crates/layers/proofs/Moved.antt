-- Layers that only move blocks: what a call sees of a block is what a call sees of it below, and a change of it is a change there alone.
use Rattle.std.proofs.Common.{◌≡◌, ℕ, ◌<◌, List, Some, arith}
use Rattle.std.proofs.lemmas.Bool.Decides.{nat_tests}
use Rattle.flash.specs.Memory.{Memory}
use Rattle.flash.specs.declared.BlockAddress.{BlockAddress}
use Rattle.layers.specs.Paired.{paired, side_of}
use Rattle.layers.specs.ReplacedPlaces.{Found, place_in, shown_by}
use Rattle.layers.specs.declared.pair.Side.TheVariants.{First, Second}
use Rattle.layers.proofs.Carried.{Carried}

-- a block that lies on the first flash of a pair, and one that lies on the second
pub in_first : (m n : Memory) (at to : BlockAddress) → side_of m n at ≡ Some (First to) → Carried (λ x. paired x n) m at.bank at.block to.bank to.block
in_first m n at to side = record { sees = grind (arith, nat_tests); changes = λ v. grind (arith, nat_tests) }

pub in_second : (m n : Memory) (at to : BlockAddress) → side_of m n at ≡ Some (Second to) → Carried (paired m) n at.bank at.block to.bank to.block
in_second m n at to side = record { sees = grind (arith, nat_tests); changes = λ v. grind (arith, nat_tests) }

-- a block that a replacer shows, at its place, where no two shown blocks of a bank have one place
pub in_place : (shown : ℕ) (rows : List (List ℕ)) (m : Memory) (at to : BlockAddress) → Found shown rows m at to
    → ((b j k : ℕ) → b < m.banks → j < shown → k < shown → place_in rows b j ≡ place_in rows b k → j ≡ k)
    → Carried (shown_by shown rows) m at.bank at.block to.bank to.block
in_place shown rows m at to found apart = record { sees = grind (arith, nat_tests); changes = λ v. grind (arith, nat_tests) }
