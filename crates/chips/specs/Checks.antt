-- What a chip tells of a block that is there, for the checks of a read and of a program.
use Rattle.std.specs.Prelude.{◌≡◌, ℕ, true, length}
use Rattle.flash.specs.Calls.{Spot}

-- the block is there, it has so many pages, and so many of them stand
pub record Shows (s : Spot) (pages standing : ℕ) : Type 0 where
  pub here : s.here ≡ true
  pub depth : s.depth ≡ pages
  pub stands : length s.block.pages ≡ standing
