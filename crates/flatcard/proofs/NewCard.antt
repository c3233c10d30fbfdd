-- A card just formed lies on a blank flash as the layout says.
use Rattle.std.proofs.Common.{◌≡◌, ℕ, zero, suc, ◌+◌, ◌*◌, ◌<◌, false, cond, eqb, ltb, List, [], ◌∷◌, ◌++◌, length, refl, ap, ◌∙◌, inl, arith}
use Rattle.std.proofs.lemmas.Nat.{mul-add-lt}
use Rattle.std.proofs.lemmas.Bool.{cond_both, cond-true, lt-ltb, ltb-false}
use Rattle.std.proofs.lemmas.Bool.Decides.{nat_tests}
use Rattle.flash.specs.Memory.{Memory}
use Rattle.flatcard.specs.Calls.{new_card}
use Rattle.flatcard.specs.Card.{Geometry, zones, chip, Card, survey}
use Rattle.flatcard.specs.Layout.{tally, sum, spots, places, LaidOut}
use Rattle.flatcard.specs.Verbs.{range, printed}
use Rattle.flatcard.proofs.Counting.{any_each}

sum_zero : (n : ℕ) (f : ℕ → ℕ) → ((i : ℕ) → f i ≡ 0) → sum n f ≡ 0
unfolding sum
sum_zero zero f h = refl
sum_zero (suc n) f h = omega (arith, h n, sum_zero n f h)

-- ---- each number below n has one spot in the row of them all
spots-push : (row : List ℕ) (x g : ℕ) → spots (row ++ (x ∷ [])) g ≡ spots row g + tally (eqb x g)
unfolding spots
spots-push [] x g = omega arith
spots-push (y ∷ ys) x g = omega (arith, spots-push ys x g)

spots-range : (n g : ℕ) → spots (range n) g ≡ tally (ltb g n)
unfolding spots
spots-range zero g = grind (arith, nat_tests)
spots-range (suc n) g = let e = spots-push (range n) n g in let i = spots-range n g in e ∙ grind (arith, nat_tests, i)

-- no page stands anywhere
pub all_blank : (m : Memory) → printed (survey m) ≡ false → (b k : ℕ) → b < m.banks → k < m.blocks → (m.at b k).pages ≡ []
all_blank m e b k l u = none (m.at b k).pages (any_each m.blocks _ (any_each m.banks _ e b l) k u)
  where
    none : (pages : List (List ℕ)) → ltb 0 (length pages) ≡ false → pages ≡ []
    none [] h = refl
    none (p ∷ ps) h = absurd (omega (arith, ltb-false 0 (length (p ∷ ps)) h))

module _ (m : Memory) (g : Geometry) (banks : g.chips * g.width ≡ m.banks) (blocks : g.blocks ≡ m.blocks) (depth : g.depth ≡ m.depth) (blank : printed (survey m) ≡ false) where
  abbrev c : Card
  c = new_card (survey m) g

  row_is : (k : ℕ) → k < g.chips → c.row k ≡ range g.blocks
  row_is k l = cond-true (ltb k g.chips) (range g.blocks) [] (lt-ltb k g.chips l)

  -- the zones hold nothing
  held_none : (k : ℕ) → sum (zones g) (λ z. cond (eqb (chip g z) k) 0 0) ≡ 0
  held_none k = sum_zero (zones g) _ (λ z. cond_both (eqb (chip g z) k) 0 0 (λ x. x ≡ 0) (λ _. refl) (λ _. refl))

  one_place : (k j : ℕ) → k < g.chips → j < g.blocks → places c k j ≡ 1
  one_place k j l u =
      let row : spots (c.row k) j ≡ tally (ltb j g.blocks) = ap (λ r. spots r j) (row_is k l) ∙ spots-range g.blocks j in
      let here : tally (ltb j g.blocks) ≡ 1 = cond-true (ltb j g.blocks) 1 0 (lt-ltb j g.blocks u) in
      omega (arith, row, here, held_none k)

  in_row : (k j : ℕ) → k < g.chips → 0 < spots (c.row k) j → j < g.blocks
  in_row k j l h =
      let row : spots (c.row k) j ≡ tally (ltb j g.blocks) = ap (λ r. spots r j) (row_is k l) ∙ spots-range g.blocks j in
      grind (arith, nat_tests, row)

  among : (k d : ℕ) → k < g.chips → d < g.width → k * g.width + d < m.banks
  among k d l u = omega (arith, mul-add-lt k g.width d g.chips l u)

  pub new_laid_out : LaidOut c m
  new_laid_out = record {
    banks = banks;
    blocks = blocks;
    depth = depth;
    place = λ k j l u. inl (one_place k j l u);
    free = λ k j l h. let u = in_row k j l h in (u, λ d i. all_blank m blank (k * g.width + d) j (among k d l i) (omega (arith, u, blocks)));
    current = λ z j l h. absurd (omega arith);
    old = λ z j l h. absurd (omega arith);
    pointer = λ z l. refl;
    lives = λ k j l u. refl;
  }
