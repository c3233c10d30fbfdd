-- The worked cases: what the definitions come to on a small card, on one byte and on one bad block.
use Rattle.std.specs.Prelude.{◌≡◌, ℕ, ◌*◌, List, [], ◌∷◌, replicate}
use Rattle.flash.specs.Maps.{address, whitened_byte, replaced_block}
use Rattle.flatcard.specs.Card.{Geometry, Flat, unformed, refused, done, Survey, Line}
use Rattle.flatcard.specs.Striping.{place}
use Rattle.flatcard.specs.Calls.{form, write, reset, thread, report}

-- ---- the cards that the cases speak of
-- a flash of blank blocks
abbrev pub blank_flash : ℕ → ℕ → ℕ → ℕ → Survey
blank_flash banks blocks depth lives = record { banks = banks; blocks = blocks; depth = depth; standing = λ b k. 0; lives = λ b k. lives }

-- two banks of six blocks of two pages, formed with two zones open together: four zones of 16 sectors, striped over both banks
abbrev pub small_card : ℕ → Flat
small_card lives = (form unformed 2 2 (blank_flash 2 6 2 lives)).1

-- n sectors of one byte
abbrev pub sectors : ℕ → ℕ → List ℕ
sectors n byte = replicate (512 * n) byte

-- its zone 3, full
abbrev pub full_zone : ℕ → Flat
full_zone lives = (write (small_card lives) 48 (sectors 16 170)).1

-- its zones 0 and 1, open
abbrev pub two_open : Flat
two_open = (write (write (small_card 3) 0 (sectors 1 1)).1 16 (sectors 1 1)).1

-- one bank of two blocks, without lives, formed with one zone open at a time: one zone of 8 sectors, filled and reset, twice
abbrev pub worn_card : Flat
worn_card = (form unformed 1 1 (blank_flash 1 2 2 0)).1

abbrev pub filled_and_reset : Flat → Flat
filled_and_reset f = (reset (write f 0 (sectors 8 1)).1 0).1

abbrev pub wide_geometry : Geometry
wide_geometry = record { limit = 2; width = 2; blocks = 6; depth = 2; chips = 1 }

-- the state of zone 3 and its pointer as an address
abbrev pub state_of_3 : Flat → ℕ × List Line
state_of_3 f = report f 3 (record { state = 0; start = 0; pointer = 0 } ∷ [])

abbrev pub zone_3_at : ℕ → ℕ → ℕ × List Line
zone_3_at state pointer = (0, record { state = state; start = 48; pointer = pointer } ∷ [])

pub record WorkedCases : Type 0 where
  -- striping over two banks
  pub offset_5 : place wide_geometry 0 5 ≡ record { bank = 1; page = 0; quarter = 1 }
  pub offset_15 : place wide_geometry 0 15 ≡ record { bank = 1; page = 1; quarter = 3 }
  -- threading a full zone: with some sectors kept only those before the first free one are carried forward at once
  pub some_kept : (thread (full_zone 3) 3 (0xD1 ∷ 0xC4 ∷ [])).0 ≡ done 0 1 0
  pub some_kept_pointer : state_of_3 (thread (full_zone 3) 3 (0xD1 ∷ 0xC4 ∷ [])).1 ≡ zone_3_at 3 49
  pub all_kept : (thread (full_zone 3) 3 (0xFF ∷ 0xFF ∷ [])).0 ≡ done 4 16 2
  pub all_kept_full : state_of_3 (thread (full_zone 3) 3 (0xFF ∷ 0xFF ∷ [])).1 ≡ zone_3_at 2 64
  pub none_kept : (thread (full_zone 3) 3 (0x00 ∷ 0x00 ∷ [])).0 ≡ done 0 0 0
  pub none_kept_pointer : state_of_3 (thread (full_zone 3) 3 (0x00 ∷ 0x00 ∷ [])).1 ≡ zone_3_at 3 48
  -- a third zone does not open beside two
  pub open_limit : (write two_open 32 (sectors 1 1)).0 ≡ refused 20
  -- a worn group is retired and not erased, and after the last one there is none to take
  pub worn_reset : (reset (full_zone 0) 48).0 ≡ done 0 0 0
  pub no_group : (write (filled_and_reset (filled_and_reset worn_card)) 0 (sectors 1 1)).0 ≡ refused 21
  -- whitening
  pub whitened : whitened_byte 1 2 3 4 0xFF ≡ 0xB7
  -- replacing: of eight blocks two are spares, and blocks 2 and 6 of bank 0 are bad
  pub replaced : replaced_block 8 2 (address 0 2 ∷ address 0 6 ∷ []) 0 2 ≡ 7
