-- What is read past the end of the card's tables, so that no statement needs a bound on a number.
use Rattle.std.specs.Prelude.{[], None}
use Rattle.std.proofs.Common.{arith}
use Rattle.zones.specs.declared.book.Row.{Row}
use Rattle.zones.specs.declared.zone.Phase.TheVariants.{Empty}
use Rattle.zones.specs.declared.zone.Slot.{Slot}
use Rattle.zones.specs.declared.zone.Zone.{Zone}

abbrev pub no_zone : Zone
no_zone = record { phase = Empty; pointer = 0; slot = None; reach = Prim.omega arith }

abbrev pub no_slot : Slot
no_slot = record { page = []; map = [] }

abbrev pub no_row : Row
no_row = record { front = 0; count = 0 }
