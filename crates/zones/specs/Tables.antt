-- What the card's fixed tables have room for.
use Rattle.std.specs.Prelude.{ℕ, ◌*◌, ◌<◌, ◌≤◌}

-- the numbers of a card that fit its tables
pub record FitsTables (limit width blocks depth chips : ℕ) : Type 0 where
  -- there is a page buffer for each zone that may be open, and a chip group has a block group more than are kept back
  pub buffers : limit ≤ 4
  pub spare : limit < blocks
  -- a zone is striped over 1 to 16 banks of at most 64 pages
  pub wide : 0 < width
  pub narrow : width ≤ 16
  pub shallow : depth ≤ 64
  -- each chip group has a row, and each zone and each block group a place in a table of 64
  pub some : 0 < chips
  pub rows : chips ≤ 16
  pub groups : chips * blocks ≤ 64
