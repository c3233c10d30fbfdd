-- A card as a flat card.
use Rattle.flash.specs.declared.Flash.{Ghosts}
use Rattle.flatcard.specs.Card.{Flat, Survey, survey}
use Rattle.zones.specs.declared.card.Card.{Card}
use Rattle.zones.specs.Books.{flat_of}

abbrev pub flat_card : {F : Type 0} {flash : Ghosts F} → Card F flash → Flat
flat_card {flash} c = flat_of (flash.memory c.flash) c.book

-- the survey of the card's flash
abbrev pub surveyed : {F : Type 0} {flash : Ghosts F} → Card F flash → Survey
surveyed {flash} c = survey (flash.memory c.flash)
