-- The card's geometry as the flat card has it.
use Rattle.std.specs.Prelude.{◌≡◌, ℕ, false}
use Rattle.flash.specs.Memory.{Memory}
use Rattle.flatcard.specs.Card as flat
use Rattle.flatcard.specs.Card.{survey}
use Rattle.flatcard.specs.Calls.{bad_shape, geometry_on}
use Rattle.zones.specs.declared.geometry.Geometry.{Geometry}

abbrev pub geometry_of : Geometry → flat.Geometry
geometry_of g = record { limit = g.limit; width = g.width; blocks = g.blocks; depth = g.depth; chips = g.chips }

-- the geometry is that of a card that fits the flash
pub record Fitting (m : Memory) (limit width : ℕ) (g : Geometry) : Type 0 where
  pub fits : bad_shape (survey m) limit width ≡ false
  pub is : geometry_of g ≡ geometry_on (survey m) limit width
