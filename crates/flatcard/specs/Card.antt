-- The flat card: what a card holds, told without a flash. It is what a host may rely on.
use Rattle.std.specs.Prelude.{ℕ, ◌-◌, ◌*◌, ◌/◌, ◌%◌, Bool, List, length, replicate}
use Rattle.flash.specs.Memory.{Memory}

-- the numbers that forming fixes: the most zones that may be open or threaded together, the banks that a zone is
-- striped over (its width), the blocks of a bank, the pages of a block (its depth), and how many chip groups there are.
-- A chip group is as many neighbouring banks as a zone is wide; block group g of a chip group is block g of each of its banks.
pub record Geometry : Type 0 where
  pub limit : ℕ
  pub width : ℕ
  pub blocks : ℕ
  pub depth : ℕ
  pub chips : ℕ

-- the sectors of a zone
abbrev pub capacity : Geometry → ℕ
capacity g = 4 * g.width * g.depth

-- how many zones there are: each chip group keeps back as many block groups as zones may be open together
abbrev pub zones : Geometry → ℕ
zones g = g.chips * (g.blocks - g.limit)

-- the chip group of a zone
abbrev pub chip : Geometry → ℕ → ℕ
chip g z = z % g.chips

-- the address of a zone's first sector; the zone of an address, and its offset in the zone
abbrev pub start : Geometry → ℕ → ℕ
start g z = z * capacity g

abbrev pub zone_of : Geometry → ℕ → ℕ
zone_of g a = a / capacity g

abbrev pub offset_of : Geometry → ℕ → ℕ
offset_of g a = a % capacity g

-- what a zone is doing, with the block group that it fills or has filled, its current group. A threaded zone
-- also has the old group, which it is written over from, and marks: the sectors that are kept.
pub data Phase : Type 0 where
  empty : Phase
  opened : ℕ → Phase
  full : ℕ → Phase
  threaded : ℕ → ℕ → (ℕ → Bool) → Phase

-- a zone: its phase, its write pointer as an offset, and the bytes of each of its sectors
pub record Zone : Type 0 where
  pub phase : Phase
  pub pointer : ℕ
  pub sector : ℕ → List ℕ

-- a formed card: its numbers; by chip group and block group the lives of the group, the least of its blocks' lives;
-- by chip group the row of its free groups, front first; and its zones
pub record Card : Type 0 where
  pub geometry : Geometry
  pub lives : ℕ → ℕ → ℕ
  pub row : ℕ → List ℕ
  pub zone : ℕ → Zone

pub data Flat : Type 0 where
  unformed : Flat
  formed : Card → Flat

-- the bytes of a sector that is not written
abbrev pub blank : List ℕ
blank = replicate 512 255

-- what a call answers: a refusal's number, or the pages programmed, the sectors copied and the blocks erased
pub data Answer : Type 0 where
  refused : ℕ → Answer
  done : ℕ → ℕ → ℕ → Answer

-- an answer as a number: 0 where the call is accepted
abbrev pub number : Answer → ℕ
number (refused n) = n
number (done programmed copied erased) = 0

-- all that forming is told of a flash: its shape, and by bank and block the standing pages and the lives
pub record Survey : Type 0 where
  pub banks : ℕ
  pub blocks : ℕ
  pub depth : ℕ
  pub standing : ℕ → ℕ → ℕ
  pub lives : ℕ → ℕ → ℕ

abbrev pub survey : Memory → Survey
survey m = record {
  banks = m.banks;
  blocks = m.blocks;
  depth = m.depth;
  standing = λ b k. length (m.at b k).pages;
  lives = λ b k. (m.at b k).lives;
}

-- a zone as a report shows it: the number of its state, its first address, and the address of its pointer
pub record Line : Type 0 where
  pub state : ℕ
  pub start : ℕ
  pub pointer : ℕ
