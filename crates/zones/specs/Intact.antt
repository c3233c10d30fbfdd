-- A card is intact: its book lies on its flash as it should.
use Rattle.flash.specs.declared.Flash.{Ghosts}
use Rattle.zones.specs.declared.card.Card.{Card}
use Rattle.zones.specs.IntactBooks.{IntactBook}

abbrev pub Intact : {F : Type 0} {flash : Ghosts F} → Card F flash → Type 0
Intact {flash} c = IntactBook (flash.memory c.flash) c.book

-- every card is: its type says so
pub intact : {F : Type 0} {flash : Ghosts F} (c : Card F flash) → Intact c
intact c = c.intact
