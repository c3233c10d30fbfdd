-- How a flat card lies on a flash: where each block group is, and what its blocks hold there.
use Rattle.std.specs.Prelude.{◌≡◌, ℕ, zero, suc, ◌+◌, ◌*◌, ◌/◌, ◌%◌, ◌<◌, ◌≤◌, Bool, cond, ◌&&◌, ◌⊎◌, List, [], ◌∷◌, ◌++◌, length, ◌==◌, slice_index_or}
use Rattle.flash.specs.Memory.{Memory, Block}
use Rattle.flash.specs.Calls.{emptied, quarter_of}
use Rattle.flatcard.specs.Card.{Geometry, capacity, zones, chip, Phase, empty, opened, full, threaded, Zone, Card}
use Rattle.flatcard.specs.Striping.{Place, place}
use Rattle.flatcard.specs.Verbs.{current, joined, least_lives}

-- ---- the places of a group: a spot of its chip group's row, current in a zone, or old in a zone. They are counted.
abbrev pub tally : Bool → ℕ
tally b = cond b 1 0

unfoldable pub sum : ℕ → (ℕ → ℕ) → ℕ
sum zero f = 0
sum (suc n) f = f n + sum n f

-- the spots of a row that hold g
unfoldable pub spots : List ℕ → ℕ → ℕ
spots [] g = 0
spots (x ∷ xs) g = tally (x == g) + spots xs g

abbrev pub current_in : Phase → ℕ → ℕ
current_in empty g = 0
current_in (opened h) g = tally (h == g)
current_in (full h) g = tally (h == g)
current_in (threaded h old marks) g = tally (h == g)

abbrev pub old_in : Phase → ℕ → ℕ
old_in empty g = 0
old_in (opened h) g = 0
old_in (full h) g = 0
old_in (threaded h old marks) g = tally (old == g)

-- the zones of chip group k in which the group g is current, or old
abbrev pub zones_with : (Phase → ℕ → ℕ) → Card → ℕ → ℕ → ℕ
zones_with in-phase c k g = sum (zones c.geometry) (λ z. cond (chip c.geometry z == k) (in-phase (c.zone z).phase g) 0)

abbrev pub places : Card → ℕ → ℕ → ℕ
places c k g = spots (c.row k) g + (zones_with current_in c k g + zones_with old_in c k g)

-- ---- what the blocks of a group hold
-- the block of group g on bank d of chip group k, of w banks
abbrev pub block : Memory → ℕ → ℕ → ℕ → ℕ → Block
block m w k g d = m.at (k * w + d) g

-- page j of a zone: four sectors
abbrev pub page : (ℕ → List ℕ) → ℕ → List ℕ
page sector j = joined sector (4 * j) 4

-- the first n pages of a zone are dealt to w banks in turn: what bank d gets
unfoldable pub dealt : ℕ → (ℕ → List ℕ) → ℕ → ℕ → List (List ℕ)
dealt w sector zero d = []
dealt w sector (suc n) d = dealt w sector n d ++ cond (n % w == d) (page sector n ∷ []) []

-- no page stands
abbrev pub Bare : Memory → ℕ → ℕ → ℕ → Type 0
Bare m w k g = (d : ℕ) → d < w → (block m w k g d).pages ≡ []

-- every page stands
abbrev pub Whole : Memory → ℕ → ℕ → ℕ → ℕ → Type 0
Whole m w depth k g = (d : ℕ) → d < w → length (block m w k g d).pages ≡ depth

-- exactly the zone's complete pages below its pointer stand, with its bytes
abbrev pub Laid : Memory → ℕ → ℕ → ℕ → Zone → Type 0
Laid m w k g v = (d : ℕ) → d < w → (block m w k g d).pages ≡ dealt w v.sector (v.pointer / 4) d

-- the sector at an offset of zone z, as the group g has it
abbrev pub sector_in : Memory → Geometry → ℕ → ℕ → ℕ → List ℕ
sector_in m geometry z g s = let p : Place = place geometry z s in quarter_of (slice_index_or (m.at p.bank g).pages p.page []) p.quarter

-- from the pointer on, the group has the zone's bytes
abbrev pub Ahead : Memory → Geometry → ℕ → ℕ → Zone → Type 0
Ahead m geometry z g v = (s : ℕ) → v.pointer ≤ s → s < capacity geometry → sector_in m geometry z g s ≡ v.sector s

-- ---- the two things that calls do to a flash
-- the blocks of a group changed, each by its bank in the group
abbrev pub with_group : Memory → ℕ → ℕ → ℕ → (ℕ → Block → Block) → Memory
with_group m w k g change = record {
  banks = m.banks;
  blocks = m.blocks;
  depth = m.depth;
  at = λ b j. cond (b / w == k && j == g) (change (b % w) (m.at b j)) (m.at b j);
}

-- lay out: the blocks of a zone's current group hold exactly the complete pages below its pointer
abbrev pub laying : ℕ → Zone → ℕ → Block → Block
laying w v d x = record { pages = dealt w v.sector (v.pointer / 4) d; lives = x.lives }

abbrev pub lay_out : Memory → Card → ℕ → Memory
lay_out m c z = with_group m c.geometry.width (chip c.geometry z) (current (c.zone z).phase) (laying c.geometry.width (c.zone z))

-- give back: each block of a group is erased, or nothing where one of them has no lives
abbrev pub give_back : Memory → ℕ → ℕ → ℕ → Memory
give_back m w k g = cond (least_lives (λ b j. (m.at b j).lives) w k g == 0) m (with_group m w k g (λ d x. emptied x))

-- ---- the card lies on the flash as it should
-- the pointer by the phase
abbrev pub Pointer : ℕ → Phase → ℕ → Type 0
Pointer n empty p = p ≡ 0
Pointer n (opened g) p = p < n
Pointer n (full g) p = p ≡ n
Pointer n (threaded g old marks) p = p < n

-- a group is in exactly one place, or it is retired: in none, without lives, and full
abbrev pub InOnePlace : Card → Memory → ℕ → ℕ → Type 0
InOnePlace c m k g = (places c k g ≡ 1) ⊎ ((places c k g ≡ 0) × (c.lives k g ≡ 0) × Whole m c.geometry.width c.geometry.depth k g)

pub record LaidOut (c : Card) (m : Memory) : Type 0 where
  pub banks : c.geometry.chips * c.geometry.width ≡ m.banks
  pub blocks : c.geometry.blocks ≡ m.blocks
  pub depth : c.geometry.depth ≡ m.depth
  pub place : (k g : ℕ) → k < c.geometry.chips → g < c.geometry.blocks → InOnePlace c m k g
  pub free : (k g : ℕ) → k < c.geometry.chips → 0 < spots (c.row k) g → (g < c.geometry.blocks) × Bare m c.geometry.width k g
  pub current : (z g : ℕ) → z < zones c.geometry → 0 < current_in (c.zone z).phase g → (g < c.geometry.blocks) × Laid m c.geometry.width (chip c.geometry z) g (c.zone z)
  pub old : (z g : ℕ) → z < zones c.geometry → 0 < old_in (c.zone z).phase g → (g < c.geometry.blocks) × Whole m c.geometry.width c.geometry.depth (chip c.geometry z) g × Ahead m c.geometry z g (c.zone z)
  pub pointer : (z : ℕ) → z < zones c.geometry → Pointer (capacity c.geometry) (c.zone z).phase (c.zone z).pointer
  pub lives : (k g : ℕ) → k < c.geometry.chips → g < c.geometry.blocks → c.lives k g ≡ least_lives (λ b j. (m.at b j).lives) c.geometry.width k g
