-- The laws of the flat card.
use Rattle.std.proofs.Common.{◌≡◌, ℕ, zero, suc, ◌+◌, ◌*◌, ◌/◌, ◌%◌, ◌<◌, ◌≤◌, Bool, true, false, eqb, ◌⊎◌, List, Some, sym, refl, ap, ◌∙◌, inl, inr, ⊎_elim, add-zero, mod-lt, div-add-mod', arith}
use Rattle.std.proofs.lemmas.Bool.{cases_eq, cond_both}
use Rattle.flash.specs.Tables.{first}
use Rattle.flatcard.specs.Card.{Geometry, capacity, chip, zone_of, Flat, unformed, formed, Answer, refused, number, Phase, empty, opened, full, threaded, Card, Survey}
use Rattle.flatcard.specs.Striping.{place, first_bank}
use Rattle.flatcard.specs.Verbs.{is_empty, current, with_zone, front, taken, given_back, swept, marks_of, settled}
use Rattle.flatcard.specs.Calls.{Call, forms, writes, reads, resets, compacts, threads, reports, called, ruled, form_checks, form_card, write_checks, write_card, opening, reset_checks, reset_card, compact_checks, compact_card, gather, thread_checks, thread_card}
use Rattle.flatcard.specs.Laws.{Laws, geometry_of}
use Rattle.flatcard.proofs.Laying.{found_at_place, gives_back, lays_alone, worn_stays}

-- a call that answers a refusal's number is not the accepted one
ruled_refused : (n : ℕ) (f : Flat) (r : Answer × Flat) → number r.0 ≡ 0 → (number (ruled n f r).0 ≡ 0 → ⊥) → (ruled n f r).1 ≡ f
ruled_refused n f r z = cond_both (eqb n 0) r (refused n, f) (λ (x : Answer × Flat). (number x.0 ≡ 0 → ⊥) → x.1 ≡ f) (λ _ k. absurd (k z)) (λ _ _. refl)

refused_unchanged : (s : Survey) (f : Flat) (x : Call) → ((called s f x).0 ≡ 0 → ⊥) → (called s f x).1 ≡ f
refused_unchanged s unformed (forms limit width) = ruled_refused (first (form_checks s limit width)) unformed (form_card s limit width) refl
refused_unchanged s (formed c) (forms limit width) = λ _. refl
refused_unchanged s unformed (writes a bytes) = λ _. refl
refused_unchanged s (formed c) (writes a bytes) = ruled_refused (first (write_checks c a bytes)) (formed c) (write_card c a bytes) refl
refused_unchanged s f (reads a buffer) = λ _. refl
refused_unchanged s unformed (resets a) = λ _. refl
refused_unchanged s (formed c) (resets a) = ruled_refused (first (reset_checks c a)) (formed c) (reset_card c a) refl
refused_unchanged s unformed (compacts source target offsets) = λ _. refl
refused_unchanged s (formed c) (compacts source target offsets) = ruled_refused (first (compact_checks c source target offsets)) (formed c) (compact_card c source target offsets) refl
refused_unchanged s unformed (threads z map) = λ _. refl
refused_unchanged s (formed c) (threads z map) = ruled_refused (first (thread_checks c z map)) (formed c) (thread_card c z map) refl
refused_unchanged s f (reports z list) = λ _. refl

-- ---- the numbers of a formed card stay
ruled_stays : (n : ℕ) (c : Card) (r : Answer × Flat) → geometry_of r.1 ≡ Some c.geometry → geometry_of (ruled n (formed c) r).1 ≡ Some c.geometry
ruled_stays n c r e = cond_both (eqb n 0) r (refused n, formed c) (λ (x : Answer × Flat). geometry_of x.1 ≡ Some c.geometry) (λ _. e) (λ _. refl)

given_stays : (c : Card) (k g : ℕ) → (given_back c k g).geometry ≡ c.geometry
given_stays c k g = cond_both (eqb (c.lives k g) 0) c _ (λ (x : Card). x.geometry ≡ c.geometry) (λ _. refl) (λ _. refl)

settled_stays : (c : Card) (z : ℕ) (phase : Phase) (p : ℕ) (sector : ℕ → List ℕ) → (settled c z phase p sector).geometry ≡ c.geometry
settled_stays c z empty p sector = refl
settled_stays c z (opened g) p sector = refl
settled_stays c z (full g) p sector = refl
settled_stays c z (threaded g old marks) p sector =
    cond_both (eqb p (capacity c.geometry)) (given_back (with_zone c z _) _ old) (with_zone c z _) (λ (x : Card). x.geometry ≡ c.geometry)
    (λ _. given_stays (with_zone c z _) _ old) (λ _. refl)

opening_stays : (c : Card) (z : ℕ) → (opening c z).geometry ≡ c.geometry
opening_stays c z = cond_both (is_empty (c.zone z).phase) (taken c _) c (λ (x : Card). x.geometry ≡ c.geometry) (λ _. refl) (λ _. refl)

formed_stays : (s : Survey) (c : Card) (x : Call) → geometry_of (called s (formed c) x).1 ≡ Some c.geometry
formed_stays s c (forms limit width) = refl
formed_stays s c (writes a bytes) =
    ruled_stays (first (write_checks c a bytes)) c (write_card c a bytes) (ap Some (settled_stays (opening c (zone_of c.geometry a)) (zone_of c.geometry a) _ _ _ ∙ opening_stays c (zone_of c.geometry a)))
formed_stays s c (reads a buffer) = refl
formed_stays s c (resets a) = ruled_stays (first (reset_checks c a)) c (reset_card c a) (ap Some (given_stays (with_zone c (zone_of c.geometry a) _) _ _))
formed_stays s c (compacts source target offsets) =
    ruled_stays (first (compact_checks c source target offsets)) c (compact_card c source target offsets)
    (ap Some (given_stays (with_zone (gather c source target offsets) source _) _ _))
formed_stays s c (threads z map) = ruled_stays (first (thread_checks c z map)) c (thread_card c z map)
    (let marks = marks_of (capacity c.geometry) map in
    ap Some (settled_stays (taken c (chip c.geometry z)) z (threaded (front (c.row (chip c.geometry z))) (current (c.zone z).phase) marks) (swept marks (capacity c.geometry) 0) (c.zone z).sector))
formed_stays s c (reports z list) = refl

-- ---- striping
in_chip_group : (g : Geometry) (z s : ℕ) → 0 < g.width → (first_bank g z ≤ (place g z s).bank) × ((place g z s).bank < first_bank g z + g.width)
in_chip_group g z s l = (omega arith, omega (arith, mod-lt (s / 4) l))

own_place : (g : Geometry) (z s t : ℕ) → 0 < g.width → place g z s ≡ place g z t → s ≡ t
own_place g z s t l e =
    let w = g.width in
    let column : s / 4 % w ≡ t / 4 % w = omega (arith, ap (λ p. p.bank) e) in
    let row : s / 4 / w ≡ t / 4 / w = ap (λ p. p.page) e in
    let product : s / 4 / w * w ≡ t / 4 / w * w = ap (λ x. x * w) row in
    omega (arith, div-add-mod' (s / 4) w, div-add-mod' (t / 4) w, ap (λ p. p.quarter) e)

-- ---- the sweep
sweep_passes : (marks : ℕ → Bool) (n p s : ℕ) → p ≤ s → s < swept marks n p → marks s ≡ true
sweep_passes marks zero p s h = λ l. absurd (omega arith)
sweep_passes marks (suc n) p s h = cond_both (marks p) (swept marks n (p + 1)) p (λ x. s < x → marks s ≡ true)
    (λ m l. ⊎_elim (λ (e : s ≡ p). ap marks e ∙ m) (λ (ne : s ≡ p → ⊥). sweep_passes marks n (p + 1) s (omega arith) l) (cases_eq s p))
    (λ _ l. absurd (omega arith))

sweep_stops : (marks : ℕ → Bool) (n p : ℕ) → (marks (swept marks n p) ≡ false) ⊎ (swept marks n p ≡ p + n)
sweep_stops marks zero p = inr (sym (add-zero p))
sweep_stops marks (suc n) p = cond_both (marks p) (swept marks n (p + 1)) p (λ x. (marks x ≡ false) ⊎ (x ≡ p + suc n))
    (λ _. ⊎_elim inl (λ e. inr (omega arith)) (sweep_stops marks n (p + 1)))
    (λ m. inl m)

pub laws : Laws
laws = record {
  refused_unchanged = refused_unchanged;
  formed_stays = formed_stays;
  in_chip_group = in_chip_group;
  own_place = own_place;
  sweep_passes = sweep_passes;
  sweep_stops = sweep_stops;
  found_at_place = found_at_place;
  lays_alone = lays_alone;
  gives_back = gives_back;
  worn_stays = worn_stays;
}
