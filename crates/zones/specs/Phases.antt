-- The phases of a zone as the card keeps them.
use Rattle.std.specs.Prelude.{ℕ, Bool}
use Rattle.flatcard.specs.Card as flat
use Rattle.zones.specs.declared.state.State.{State}
use Rattle.zones.specs.declared.state.State.TheVariants as state
use Rattle.zones.specs.declared.zone.Phase.{Phase}
use Rattle.zones.specs.declared.zone.Phase.TheVariants.{Empty, Open, Full, Threaded}

-- the state that a report shows
abbrev pub phase_state : Phase → State
phase_state Empty = state.Empty
phase_state (Open g) = state.Open
phase_state (Full g) = state.Full
phase_state (Threaded g old) = state.Threaded

-- the phase on the flat card, with the marks of the zone
abbrev pub phase_of : Phase → (ℕ → Bool) → flat.Phase
phase_of Empty marks = flat.empty
phase_of (Open g) marks = flat.opened g
phase_of (Full g) marks = flat.full g
phase_of (Threaded g old) marks = flat.threaded g old marks
