-- How a book and a flash make a flat card.
use Rattle.std.specs.Prelude.{ℕ, ◌*◌, ◌/◌, ◌%◌, cond, List, [], ◌++◌, take, drop, Some, None, Option, nat_lt, slice_index_or}
use Rattle.flash.specs.Memory.{Memory}
use Rattle.flash.specs.Calls.{quarter_of}
use Rattle.flatcard.specs.Card.{capacity, Flat, unformed, formed, blank}
use Rattle.flatcard.specs.Card as flat
use Rattle.flatcard.specs.Layout.{sector_in}
use Rattle.flatcard.specs.Verbs.{current, least_lives, marks_of}
use Rattle.zones.specs.declared.book.Book.{Book}
use Rattle.zones.specs.declared.book.Row.{Row}
use Rattle.zones.specs.declared.geometry.Geometry.{Geometry}
use Rattle.zones.specs.declared.zone.Slot.{Slot}
use Rattle.zones.specs.declared.zone.Zone.{Zone}
use Rattle.zones.specs.Defaults.{no_row, no_slot, no_zone}
use Rattle.zones.specs.Geometries.{geometry_of}
use Rattle.zones.specs.Phases.{phase_of}

abbrev pub zone_at : Book → ℕ → Zone
zone_at b z = slice_index_or b.zones z no_zone

-- the slot of a zone, and one that holds nothing for a zone without one
abbrev pub slot_at : Book → Option ℕ → Slot
slot_at b None = no_slot
slot_at b (Some n) = slice_index_or b.slots n no_slot

-- ---- rows
-- the elements of a first-in first-out row over a stretch, front first, going round at its end
abbrev pub elements : {A : Type 0} → Row → List A → List A
elements r stretch = take r.count (drop r.front (stretch ++ stretch))

-- the free groups of chip group k
abbrev pub row_of : Book → ℕ → List ℕ
row_of b k =
    let g : Geometry = b.geometry in
    cond (nat_lt k g.chips) (elements (slice_index_or b.rows k no_row) (take g.blocks (drop (k * g.blocks) b.groups))) []

-- ---- zones
-- what lies past the pointer: the old group's sector in a threaded zone, otherwise nothing
abbrev pub ahead : Memory → flat.Geometry → ℕ → flat.Phase → ℕ → List ℕ
ahead m g z flat.empty s = blank
ahead m g z (flat.opened group) s = blank
ahead m g z (flat.full group) s = blank
ahead m g z (flat.threaded group old marks) s = cond (nat_lt s (capacity g)) (sector_in m g z old s) blank

-- a sector: on the flash if its page is complete, in the page buffer if it waits there, or ahead of the pointer
abbrev pub sector_of : Memory → flat.Geometry → ℕ → flat.Phase → ℕ → List ℕ → ℕ → List ℕ
sector_of m g z phase pointer buffer s =
    cond (nat_lt (s / 4) (pointer / 4)) (sector_in m g z (current phase) s)
    (cond (nat_lt s pointer) (quarter_of buffer (s % 4))
    (ahead m g z phase s))

abbrev pub zone_phase : Book → Zone → flat.Phase
zone_phase b v = phase_of v.phase (marks_of (capacity (geometry_of b.geometry)) (slot_at b v.slot).map)

abbrev pub zone_of : Memory → Book → ℕ → flat.Zone
zone_of m b z =
    let v : Zone = zone_at b z in
    record {
      phase = zone_phase b v;
      pointer = v.pointer;
      sector = sector_of m (geometry_of b.geometry) z (zone_phase b v) v.pointer (slot_at b v.slot).page;
    }

-- ---- the card
abbrev pub card_of : Memory → Book → flat.Card
card_of m b = record {
  geometry = geometry_of b.geometry;
  lives = least_lives (λ bank block. (m.at bank block).lives) b.geometry.width;
  row = row_of b;
  zone = zone_of m b;
}

-- a card without a book is not formed
abbrev pub flat_of : Memory → Option Book → Flat
flat_of m None = unformed
flat_of m (Some b) = formed (card_of m b)
