-- What laying out a zone and giving back a group make of a flash.
use Rattle.std.proofs.Common.{◌≡◌, ℕ, ◌+◌, ◌*◌, ◌/◌, ◌%◌, ◌<◌, ◌&&◌, eqb, [], length, get_or, sym, refl, ap, ◌∙◌, mod-lt, div-add-mod', arith}
use Rattle.std.proofs.lemmas.Nat.{div-mul-add, mod-mul-add}
use Rattle.std.proofs.lemmas.Bool.{and_from, and_parts, cond_both, cond-true, cond-false, eq-eqb, eqb-true, ne_eqb}
use Rattle.flash.specs.Calls.{emptied, quarter_of}
use Rattle.flash.specs.Memory.{Block, Memory}
use Rattle.flatcard.specs.Card.{Card, chip}
use Rattle.flatcard.specs.Layout.{Laid, block, give_back, lay_out, laying, page, sector_in, with_group}
use Rattle.flatcard.specs.Verbs.{current, least_lives}
use Rattle.flatcard.proofs.Dealing.{dealt_page, page_quarter}

module _ (m : Memory) (w k g : ℕ) (change : ℕ → Block → Block) where
  pub group_here : (d : ℕ) → d < w → block (with_group m w k g change) w k g d ≡ change d (block m w k g d)
  group_here d l =
      cond-true (eqb ((k * w + d) / w) k && eqb g g) _ _ (and_from (eqb ((k * w + d) / w) k) (eqb g g) (eq-eqb ((k * w + d) / w) k (div-mul-add k w d l)) (eq-eqb g g refl))
      ∙ ap (λ (x : ℕ). change x (block m w k g d)) (mod-mul-add k w d l)

  pub group_elsewhere : (j h d : ℕ) → d < w → (j ≡ k → h ≡ g → ⊥) → block (with_group m w k g change) w j h d ≡ block m w j h d
  group_elsewhere j h d l other = cond_both (eqb ((j * w + d) / w) k && eqb h g) (change ((j * w + d) % w) (block m w j h d)) (block m w j h d) (λ x. x ≡ block m w j h d)
      (λ t. let u = and_parts (eqb ((j * w + d) / w) k) (eqb h g) t in absurd (other (sym (div-mul-add j w d l) ∙ eqb-true ((j * w + d) / w) k u.0) (eqb-true h g u.1)))
      (λ _. refl)

module _ (m : Memory) (c : Card) (z : ℕ) where
  pub lays : Laid (lay_out m c z) c.geometry.width (chip c.geometry z) (current (c.zone z).phase) (c.zone z)
  lays d l = ap (λ x. x.pages) (group_here m c.geometry.width (chip c.geometry z) (current (c.zone z).phase) (laying c.geometry.width (c.zone z)) d l)

  pub lays_alone : (k g d : ℕ) → d < c.geometry.width → (k ≡ chip c.geometry z → g ≡ current (c.zone z).phase → ⊥) → block (lay_out m c z) c.geometry.width k g d ≡ block m c.geometry.width k g d
  lays_alone k g d l other = group_elsewhere m c.geometry.width (chip c.geometry z) (current (c.zone z).phase) (laying c.geometry.width (c.zone z)) k g d l other

  pub found_at_place : (s : ℕ) → 0 < c.geometry.width → ((t : ℕ) → length ((c.zone z).sector t) ≡ 512) → s / 4 < (c.zone z).pointer / 4 → sector_in (lay_out m c z) c.geometry z (current (c.zone z).phase) s ≡ (c.zone z).sector s
  found_at_place s wide long h =
      let w = c.geometry.width in
      let v = c.zone z in
      let j : ℕ = s / 4 in
      let split : j / w * w + j % w ≡ j = div-add-mod' j w in
      ap (λ pages. quarter_of (get_or pages (j / w) []) (s % 4)) (lays (j % w) (mod-lt j wide))
      ∙ ap (λ p. quarter_of p (s % 4)) (dealt_page w v.sector (v.pointer / 4) (j / w) (j % w) (mod-lt j wide) (omega (arith, split)) ∙ ap (page v.sector) split)
      ∙ page_quarter v.sector long j (s % 4) (omega arith)
      ∙ ap v.sector (omega arith)

module _ (m : Memory) (w k g : ℕ) where
  pub worn_stays : least_lives (λ b j. (m.at b j).lives) w k g ≡ 0 → give_back m w k g ≡ m
  worn_stays e = cond-true (eqb (least_lives (λ b j. (m.at b j).lives) w k g) 0) m _ (eq-eqb _ 0 e)

  pub gives_back : 0 < least_lives (λ b j. (m.at b j).lives) w k g → (d : ℕ) → d < w → block (give_back m w k g) w k g d ≡ emptied (block m w k g d)
  gives_back h d l =
      ap (λ n. block n w k g d) (cond-false (eqb (least_lives (λ b j. (m.at b j).lives) w k g) 0) m (with_group m w k g (λ d x. emptied x)) (ne_eqb _ 0 (λ e. omega arith)))
      ∙ group_here m w k g (λ d x. emptied x) d l
