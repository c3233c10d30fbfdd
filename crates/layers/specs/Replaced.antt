-- What a flash shows whose bad blocks are replaced by spares: of the K blocks in a bank the last S are spares.
use Rattle.std.specs.Prelude.{ℕ, ◌-◌, Bool, true, cond, not, ◌&&◌, List, [], ◌∷◌, length, nat_le, nat_lt}
use Rattle.std.specs.List.{list_all, range_with_len}
use Rattle.flash.specs.declared.BlockAddress.{BlockAddress}
use Rattle.flash.specs.Maps.{bad_of, good_of, is_bad, replaced_block}
use Rattle.flash.specs.Memory.{Memory, no_banks, no_block}

-- ---- where it can be done
-- each bad block is a block of the flash, and none is repeated
abbrev pub listed : ℕ → ℕ → List BlockAddress → Bool
listed banks blocks [] = true
listed banks blocks (at ∷ ats) =
    nat_lt at.bank banks && (nat_lt at.block blocks && (not (is_bad ats at.bank at.block) && listed banks blocks ats))

-- a bank has a good spare for each of its bad shown blocks
abbrev pub bank_enough : ℕ → ℕ → List BlockAddress → ℕ → Bool
bank_enough blocks spares bad bank =
    nat_le (length (bad_of bad bank (range_with_len 0 (blocks - spares)))) (length (good_of bad bank (range_with_len (blocks - spares) spares)))

-- each of the first n banks has
abbrev pub enough : ℕ → ℕ → List BlockAddress → ℕ → Bool
enough blocks spares bad n = list_all (bank_enough blocks spares bad) (range_with_len 0 n)

-- of a flash of so many banks and blocks in each, the last `spares` blocks of a bank can replace the bad blocks
abbrev pub replaceable : ℕ → ℕ → ℕ → List BlockAddress → Bool
replaceable banks blocks spares bad =
    nat_le spares 8 && (nat_lt spares blocks && (nat_le (length bad) 32 && (listed banks blocks bad && enough blocks spares bad banks)))

-- the flash without the spares, each block found at its place; it shows no banks where the bad blocks cannot be replaced
abbrev pub replaced : ℕ → List BlockAddress → Memory → Memory
replaced spares bad m = cond (replaceable m.banks m.blocks spares bad) (record {
  banks = m.banks;
  blocks = m.blocks - spares;
  depth = m.depth;
  at = λ b k. cond (nat_lt b m.banks && nat_lt k (m.blocks - spares)) (m.at b (replaced_block m.blocks spares bad b k)) no_block;
}) no_banks
