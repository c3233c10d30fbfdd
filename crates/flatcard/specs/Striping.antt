-- Where the sectors of a zone lie: page by page over the banks of its chip group in turn.
use Rattle.std.specs.Prelude.{ℕ, ◌+◌, ◌*◌, ◌/◌, ◌%◌}
use Rattle.flatcard.specs.Card.{Geometry, chip}

-- a bank of the flash, a page of the zone's group on that bank, and a quarter of that page
pub record Place : Type 0 where
  pub bank : ℕ
  pub page : ℕ
  pub quarter : ℕ

-- the first bank of a zone's chip group
abbrev pub first_bank : Geometry → ℕ → ℕ
first_bank g z = chip g z * g.width

-- the place of the sector at an offset of a zone
abbrev pub place : Geometry → ℕ → ℕ → Place
place g z s = record {
  bank = first_bank g z + s / 4 % g.width;
  page = s / 4 / g.width;
  quarter = s % 4;
}
