-- What holds of the book of every card: it lies on the flash of the card as it should.
use Rattle.std.specs.Prelude.{◌≡◌, ℕ, ◌<◌, ◌≤◌, is_some, Some, None, Option, ◌≢◌, ◌⊎◌}
use Rattle.std.proofs.Common.{ap, arith, inl, inr}
use Rattle.std.proofs.Props.{props}
use Rattle.flash.specs.Memory.{Memory}
use Rattle.flatcard.specs.Card.{zones, Card, Phase, empty, opened, full, threaded}
use Rattle.flatcard.specs.Layout.{LaidOut, InOnePlace, Pointer}
use Rattle.flatcard.specs.Verbs.{is_active}
use Rattle.zones.specs.declared.book.Book.{Book}
use Rattle.zones.specs.Books.{card_of, zone_at, zone_of}
use Rattle.zones.specs.Defaults.{no_zone}
use Rattle.zones.specs.Geometries.{geometry_of}

pub record IntactFormed (m : Memory) (b : Book) : Type 0 where
  -- the card lies on the flash as the layout says
  pub laid_out : LaidOut (card_of m b) m
  -- a zone has a slot just while it is open or threaded, and has it to itself
  pub buffered : (z : ℕ) → is_some (zone_at b z).slot ≡ is_active (zone_of m b z).phase
  pub slots : (z slot : ℕ) → (zone_at b z).slot ≡ Some slot → slot < b.geometry.limit
  pub own_slot : (y z slot : ℕ) → (y ≢ z) → (zone_at b y).slot ≡ Some slot → (zone_at b z).slot ≢ Some slot
  -- past the card's zones the table is empty
  pub past : (z : ℕ) → zones (geometry_of b.geometry) ≤ z → zone_at b z ≡ no_zone

-- a card without a book has no layout yet, and nothing to keep
abbrev pub IntactBook : Memory → Option Book → Type 0
IntactBook m None = Unit {0}
IntactBook m (Some b) = IntactFormed m b

-- ---- it can hold in one way only
-- of two facts that exclude each other
either_prop : {A B : Type 0} → IsProp A → IsProp B → (A → B → ⊥) → IsProp (A ⊎ B)
either_prop a b apart (inl x) (inl y) = ap inl (a x y)
either_prop a b apart (inl x) (inr y) = absurd (apart x y)
either_prop a b apart (inr x) (inl y) = absurd (apart y x)
either_prop a b apart (inr x) (inr y) = ap inr (b x y)

one_place_prop : (c : Card) (m : Memory) (k g : ℕ) → IsProp (InOnePlace c m k g)
one_place_prop c m k g = either_prop (Prim.hlevel props) (Prim.hlevel props) (λ one none. omega (arith, none.0))

pointer_prop : (n : ℕ) (phase : Phase) (p : ℕ) → IsProp (Pointer n phase p)
pointer_prop n empty p = Prim.hlevel props
pointer_prop n (opened g) p = Prim.hlevel props
pointer_prop n (full g) p = Prim.hlevel props
pointer_prop n (threaded g old marks) p = Prim.hlevel props

pub intact_prop : (m : Memory) (o : Option Book) → IsProp (IntactBook m o)
intact_prop m None = Prim.hlevel props
intact_prop m (Some b) = Prim.hlevel (props, one_place_prop, pointer_prop)
