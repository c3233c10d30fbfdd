-- What a flash shows through rows of places, and that it keeps within the bounds of a flash: the trait asks for that as a member, so its proof stands here.
use Rattle.std.specs.Prelude.{◌≡◌, ℕ, ◌<◌, ◌≤◌, cond, ◌&&◌, List, [], nat_lt, slice_index, slice_index_or}
use Rattle.std.proofs.Common.{arith}
use Rattle.std.proofs.lemmas.Bool.{cond_both, cond-false, ltb-true}
use Rattle.flash.specs.declared.BlockAddress.{BlockAddress}
use Rattle.flash.specs.Memory.{Memory, Bounds, SoundBlock, no_banks, no_banks_bounds, no_block, no_block_sound}

-- where the rows, one for each bank, have the block k of the bank b
abbrev pub place_in : List (List ℕ) → ℕ → ℕ → ℕ
place_in rows b k = slice_index (slice_index_or rows b []) k

-- the first `shown` blocks of each bank, each found at its place
abbrev pub relocated : ℕ → List (List ℕ) → Memory → Memory
relocated shown rows m = record {
  banks = m.banks;
  blocks = shown;
  depth = m.depth;
  at = λ b k. cond (nat_lt b m.banks && nat_lt k shown) (m.at b (place_in rows b k)) no_block;
}

-- and no banks where no block is shown
abbrev pub shown_by : ℕ → List (List ℕ) → Memory → Memory
shown_by shown rows m = cond (nat_lt 0 shown) (relocated shown rows m) no_banks

-- the block is shown, and found at `to` below
pub record Found (shown : ℕ) (rows : List (List ℕ)) (m : Memory) (at to : BlockAddress) : Type 0 where
  pub bank : at.bank < m.banks
  pub block : at.block < shown
  pub same_bank : to.bank ≡ at.bank
  pub is : to.block ≡ place_in rows at.bank at.block
  pub low : to.block < m.blocks

-- ---- the bounds
relocated_bounds : (shown : ℕ) (rows : List (List ℕ)) (m : Memory) → Bounds m → 0 < shown → shown ≤ m.blocks → Bounds (relocated shown rows m)
relocated_bounds shown rows m bm some few = record {
  banks = bm.banks;
  blocks = omega (arith, few, bm.blocks);
  depth = bm.depth;
  some = λ h. (some, (bm.some h).1);
  none = λ h. absurd (omega (arith, (bm.none h).0, some, few));
  each = λ b k. cond_both (nat_lt b m.banks && nat_lt k shown) (m.at b (place_in rows b k)) no_block (SoundBlock m.depth) (λ _. bm.each b (place_in rows b k)) (λ _. no_block_sound m.depth);
  outside = λ b k e. cond-false (nat_lt b m.banks && nat_lt k shown) (m.at b (place_in rows b k)) no_block e;
}

pub shown_by_bounds : (shown : ℕ) (rows : List (List ℕ)) (m : Memory) → Bounds m → shown ≤ m.blocks → Bounds (shown_by shown rows m)
shown_by_bounds shown rows m bm few = cond_both (nat_lt 0 shown) (relocated shown rows m) no_banks Bounds (λ e. relocated_bounds shown rows m bm (ltb-true 0 shown e) few) (λ _. no_banks_bounds)
