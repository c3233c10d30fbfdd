-- What each call of a flash answers, and what it makes of the flash.
use Rattle.std.specs.Prelude.{ℕ, ◌-◌, ◌*◌, Bool, cond, not, ◌&&◌, List, [], ◌∷◌, ◌++◌, length, take, drop, Some, None, Option, ◌==◌, nat_lt, slice_index_or}
use Rattle.flash.specs.Memory.{Memory, Block, inside}
use Rattle.flash.specs.Tables.{first, unless_refused}

-- all that a call sees of a flash: whether the block is there, how many pages a block has, and the block
pub record Spot : Type 0 where
  pub here : Bool
  pub depth : ℕ
  pub block : Block

abbrev pub spot : Memory → ℕ → ℕ → Spot
spot m b k = record { here = inside m b k; depth = m.depth; block = m.at b k }

-- m with v as the block k of the bank b
abbrev pub with_block : Memory → ℕ → ℕ → Block → Memory
with_block m b k v = record {
  banks = m.banks;
  blocks = m.blocks;
  depth = m.depth;
  at = λ b' k'. cond (b' == b && k' == k) v (m.at b' k');
}

-- all that a call changes: one block, and nothing where it answers a refusal's number
abbrev pub changed : Memory → ℕ → ℕ → ℕ → Block → Memory
changed m b k n v = unless_refused n (with_block m b k v) m

-- ---- the questions
abbrev pub standing_at : Spot → Option ℕ
standing_at s = cond s.here (Some (length s.block.pages)) None

abbrev pub lives_at : Spot → Option ℕ
lives_at s = cond s.here (Some s.block.lives) None

-- ---- program: outside the shape, not a page's length, not the next page
abbrev pub program_number : Spot → ℕ → List ℕ → ℕ
program_number s p bytes = first (
    (not (s.here && nat_lt p s.depth), 1) ∷
    (not (length bytes == 2048), 2) ∷
    (not (p == length s.block.pages), 3) ∷
    [])

abbrev pub written : Block → List ℕ → Block
written v bytes = record { pages = v.pages ++ bytes ∷ []; lives = v.lives }

abbrev pub programmed : Memory → ℕ → ℕ → ℕ → List ℕ → Memory
programmed m b k p bytes = changed m b k (program_number (spot m b k) p bytes) (written (m.at b k) bytes)

-- ---- read: outside the shape, not a sector's length, the page does not stand
abbrev pub read_number : Spot → ℕ → ℕ → List ℕ → ℕ
read_number s p q buffer = first (
    (not (s.here && (nat_lt p s.depth && nat_lt q 4)), 1) ∷
    (not (length buffer == 512), 2) ∷
    (not (nat_lt p (length s.block.pages)), 4) ∷
    [])

-- the quarter q of a page
abbrev pub quarter_of : List ℕ → ℕ → List ℕ
quarter_of page q = take 512 (drop (q * 512) page)

-- the buffer after a read
abbrev pub filled : Spot → ℕ → ℕ → List ℕ → List ℕ
filled s p q buffer = unless_refused (read_number s p q buffer) (quarter_of (slice_index_or s.block.pages p []) q) buffer

-- ---- erase: outside the shape, no lives left
abbrev pub erase_number : Spot → ℕ
erase_number s = first (
    (not s.here, 1) ∷
    ((s.block.lives == 0), 5) ∷
    [])

abbrev pub emptied : Block → Block
emptied v = record { pages = []; lives = v.lives - 1 }

abbrev pub erased : Memory → ℕ → ℕ → Memory
erased m b k = changed m b k (erase_number (spot m b k)) (emptied (m.at b k))
