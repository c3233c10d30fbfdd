-- What holds of the flat card whatever is asked of it, and of its layout on a flash.
use Rattle.std.specs.Prelude.{◌≡◌, ℕ, ◌+◌, ◌/◌, ◌<◌, ◌≤◌, Bool, true, false, ◌⊎◌, length, Some, None, Option, ◌≢◌}
use Rattle.flash.specs.Calls.{emptied}
use Rattle.flash.specs.Memory.{Memory}
use Rattle.flatcard.specs.Card.{Geometry, chip, Flat, unformed, formed, Card, Survey}
use Rattle.flatcard.specs.Striping.{place, first_bank}
use Rattle.flatcard.specs.Layout.{block, give_back, lay_out, sector_in}
use Rattle.flatcard.specs.Verbs.{current, least_lives, swept}
use Rattle.flatcard.specs.Calls.{Call, called}

abbrev pub geometry_of : Flat → Option Geometry
geometry_of unformed = None
geometry_of (formed c) = Some c.geometry

pub record Laws : Type 0 where
  -- a refused call leaves the card as it was
  pub refused_unchanged : (s : Survey) (f : Flat) (x : Call) → ((called s f x).0 ≢ 0) → (called s f x).1 ≡ f
  -- a formed card stays formed, with the same numbers, so that a zone's chip group and addresses never change
  pub formed_stays : (s : Survey) (c : Card) (x : Call) → geometry_of (called s (formed c) x).1 ≡ Some c.geometry
  -- a zone never leaves its chip group
  pub in_chip_group : (g : Geometry) (z s : ℕ) → 0 < g.width → (first_bank g z ≤ (place g z s).bank) × ((place g z s).bank < first_bank g z + g.width)
  -- no two sectors of a zone lie at one place
  pub own_place : (g : Geometry) (z s t : ℕ) → 0 < g.width → place g z s ≡ place g z t → s ≡ t
  -- a sweep passes only marked sectors, and stops at one that is not or at the end
  pub sweep_passes : (marks : ℕ → Bool) (n p s : ℕ) → p ≤ s → s < swept marks n p → marks s ≡ true
  pub sweep_stops : (marks : ℕ → Bool) (n p : ℕ) → (marks (swept marks n p) ≡ false) ⊎ (swept marks n p ≡ p + n)
  -- laying out a zone puts each sector of its complete pages at its place, and leaves every other group as it was
  pub found_at_place : (m : Memory) (c : Card) (z s : ℕ) → 0 < c.geometry.width → ((t : ℕ) → length ((c.zone z).sector t) ≡ 512) → s / 4 < (c.zone z).pointer / 4
      → sector_in (lay_out m c z) c.geometry z (current (c.zone z).phase) s ≡ (c.zone z).sector s
  pub lays_alone : (m : Memory) (c : Card) (z k g d : ℕ) → d < c.geometry.width → (k ≡ chip c.geometry z → g ≢ current (c.zone z).phase)
      → block (lay_out m c z) c.geometry.width k g d ≡ block m c.geometry.width k g d
  -- giving back a group erases each of its blocks, and does nothing where one of them has no lives
  pub gives_back : (m : Memory) (w k g : ℕ) → 0 < least_lives (λ b j. (m.at b j).lives) w k g → (d : ℕ) → d < w → block (give_back m w k g) w k g d ≡ emptied (block m w k g d)
  pub worn_stays : (m : Memory) (w k g : ℕ) → least_lives (λ b j. (m.at b j).lives) w k g ≡ 0 → give_back m w k g ≡ m
