-- The book of a card just formed makes the new flat card, and the card is intact.
use Rattle.std.proofs.Common.{◌≡◌, ℕ, ◌+◌, ◌*◌, ◌/◌, ◌%◌, ◌<◌, ◌≤◌, false, cond, ltb, List, [], length, get_or, take, drop, is_some, Some, None, Option, sym, ap, ◌∙◌, subst, mul-le-mul_right, add-mul, div-add-mod', arith}
use Rattle.std.proofs.lemmas.Nat.{mod-mul-add}
use Rattle.std.proofs.lemmas.List.{ext_get_or, get_or-take, get_or-drop, get_or-replicate, length-take, length-drop, take_at}
use Rattle.std.proofs.lemmas.Bool.{cond_both, cond-true, cond-false, false≢true, ltb-true}
use Rattle.std.proofs.lemmas.Bool.Decides.{nat_tests}
use Rattle.flash.specs.Memory.{Memory}
use Rattle.flash.specs.Tables.{first}
use Rattle.flatcard.specs.Card.{formed, done, blank, survey, unformed}
use Rattle.flatcard.specs.Card as flat
use Rattle.flatcard.specs.Calls.{empty_zone, form, form_card, form_checks, geometry_on, new_card}
use Rattle.flatcard.specs.Layout.{LaidOut}
use Rattle.flatcard.specs.Verbs.{is_active, range, printed}
use Rattle.flash.proofs.Calls.{not_refused}
use Rattle.flatcard.proofs.Counting.{length-range, get_or-range}
use Rattle.flatcard.proofs.NewCard.{new_laid_out}
use Rattle.zones.specs.declared.book.Book.{Book}
use Rattle.zones.specs.declared.geometry.Geometry.{Geometry}
use Rattle.zones.specs.Books.{card_of, elements, flat_of, row_of, sector_of, slot_at, zone_at, zone_of, zone_phase}
use Rattle.zones.specs.Defaults.{no_row, no_zone}
use Rattle.zones.specs.Formed.{Begun}
use Rattle.zones.specs.Geometries.{Fitting, geometry_of}
use Rattle.zones.specs.IntactBooks.{IntactFormed}
use Rattle.zones.proofs.NoZones.{no_zones}

module _ (m : Memory) (b : Book) (g' : Geometry) (begun : Begun b g') where
  abbrev g : Geometry
  g = b.geometry

  none_at : (z : ℕ) → zone_at b z ≡ no_zone
  none_at z = ap (λ table. get_or table z no_zone) begun.zones ∙ no_zones z

  -- ---- zones
  blank_at : (z s : ℕ) → sector_of m (geometry_of g) z flat.empty 0 [] s ≡ blank
  blank_at z s = grind (arith, nat_tests)

  zone_is : (z : ℕ) → zone_of m b z ≡ empty_zone
  zone_is z =
      (λ i. let v = none_at z i in record {
        phase = zone_phase b v;
        pointer = v.pointer;
        sector = sector_of m (geometry_of g) z (zone_phase b v) v.pointer (slot_at b v.slot).page;
      })
      ∙ (λ i. record { phase = flat.empty; pointer = 0; sector = λ s. blank_at z s i })

  -- ---- rows
  stretch : ℕ → List ℕ
  stretch k = take g.blocks (drop (k * g.blocks) b.groups)

  module _ (k : ℕ) (low : k < g.chips) where
    in_table : k * g.blocks + g.blocks ≤ 64
    in_table = let more : k + 1 ≤ g.chips = omega arith in omega (arith, mul-le-mul_right g.blocks more, add-mul k 1 g.blocks, g.fits.groups)

    stretch_long : length (stretch k) ≡ g.blocks
    unfolding stretch
    stretch_long = simp (length-take, length-drop) (omega (arith, in_table, begun.groups))

    stretch_is : stretch k ≡ range g.blocks
    unfolding stretch
    stretch_is = ext_get_or 0 (stretch k) (range g.blocks) (stretch_long ∙ sym (length-range g.blocks)) (λ i l.
        let u : i < g.blocks = omega (arith, stretch_long) in
        get_or-take g.blocks (drop (k * g.blocks) b.groups) i 0 u
        ∙ get_or-drop (k * g.blocks) b.groups i 0
        ∙ begun.rising (k * g.blocks + i) (omega (arith, in_table))
        ∙ mod-mul-add k g.blocks i u
        ∙ sym (get_or-range g.blocks i u))

    full_row : elements (get_or b.rows k no_row) (stretch k) ≡ range g.blocks
    full_row =
        ap (λ rows. elements (get_or rows k no_row) (stretch k)) begun.rows
        ∙ ap (λ row. elements row (stretch k)) (get_or-replicate 16 k (record { front = 0; count = g.blocks }) no_row (omega (arith, g.fits.rows)))
        ∙ take_at (stretch k) (stretch k) g.blocks stretch_long
        ∙ stretch_is

  row_is : (k : ℕ) → row_of b k ≡ cond (ltb k g.chips) (range g.blocks) []
  unfolding stretch
  row_is k = cond_both (ltb k g.chips) (range g.blocks) [] (λ x. row_of b k ≡ x)
      (λ t. cond-true (ltb k g.chips) _ [] t ∙ full_row k (ltb-true k g.chips t))
      (λ t. cond-false (ltb k g.chips) _ [] t)

  -- ---- the card
  card_is : card_of m b ≡ new_card (survey m) (geometry_of g)
  card_is = λ i. record {
    geometry = geometry_of g;
    lives = (card_of m b).lives;
    row = λ k. row_is k i;
    zone = λ z. zone_is z i;
  }

  no_slot_at : (z slot : ℕ) → (zone_at b z).slot ≡ Some slot → ⊥
  no_slot_at z slot e = false≢true (sym (ap (λ v. is_some v.slot) (none_at z)) ∙ ap is_some e)

  intact_if : LaidOut (new_card (survey m) (geometry_of g)) m → IntactFormed m b
  intact_if laid = record {
    laid_out = subst (λ c. LaidOut c m) (sym card_is) laid;
    buffered = λ z. ap (λ v. is_some v.slot) (none_at z) ∙ sym (ap (λ v. is_active (zone_phase b v)) (none_at z));
    slots = λ z slot e. absurd (no_slot_at z slot e);
    own_slot = λ y z slot n e f. no_slot_at y slot e;
    past = λ z h. none_at z;
  }

-- ---- the call, where no refusal applies
module _ (m : Memory) (limit width : ℕ) (g : Geometry) (fit : Fitting m limit width g) (blank_is : printed (survey m) ≡ false) (b : Book) (begun : Begun b g) where
  fits : geometry_of b.geometry ≡ geometry_on (survey m) limit width
  fits = ap geometry_of begun.geometry ∙ fit.is

  accepted : form unformed limit width (survey m) ≡ form_card (survey m) limit width
  accepted = not_refused (first (form_checks (survey m) limit width)) (form_card (survey m) limit width) _ (λ i. cond (fit.fits i) 13 (cond (blank_is i) 14 0))

  pub form_is : (o : Option Book) → is_some o ≡ false → formed (card_of m b) ≡ (form (flat_of m o) limit width (survey m)).1
  form_is None e = sym (ap (λ r. r.1) accepted ∙ ap formed (sym (card_is m b g begun ∙ ap (new_card (survey m)) fits)))
  form_is (Some _) e = absurd (false≢true (sym e))

  -- the chip groups make up the banks
  whole : b.geometry.chips * b.geometry.width ≡ m.banks
  whole =
      let even : m.banks % width ≡ 0 = grind (arith, nat_tests, fit.fits) in
      let chips : b.geometry.chips ≡ m.banks / width = ap (λ x. x.chips) fits in
      let wide : b.geometry.width ≡ width = ap (λ x. x.width) fits in
      (λ i. chips i * wide i) ∙ omega (arith, div-add-mod' m.banks width)

  pub intact_is : IntactFormed m b
  intact_is = intact_if m b g begun (new_laid_out m (geometry_of b.geometry) whole (ap (λ x. x.blocks) fits) (ap (λ x. x.depth) fits) blank_is)
