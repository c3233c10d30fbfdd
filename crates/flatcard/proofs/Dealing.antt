-- The pages of a zone as they are dealt to the banks of its group.
use Rattle.std.proofs.Common.{◌≡◌, ℕ, zero, suc, ◌+◌, ◌*◌, ◌%◌, ◌<◌, ◌≤◌, cond, eqb, ltb, List, [], ◌∷◌, ◌++◌, length, get_or, take, drop, sym, refl, ap, ◌∙◌, subst, ⊎_elim, add-zero, add-suc, suc-mul, zero-mul, arith}
use Rattle.std.proofs.lemmas.Nat.{mod-mul-add}
use Rattle.std.proofs.lemmas.List.{drop_at, drop-drop, get_or_append_left, get_or_push, length-append, take_at}
use Rattle.std.proofs.lemmas.Bool.{cases_eq, cond_both, cond-true, cond-false, eq-eqb}
use Rattle.std.proofs.lemmas.Bool.Decides.{nat_tests}
use Rattle.flash.specs.Calls.{quarter_of}
use Rattle.flatcard.specs.Layout.{dealt, page, tally}
use Rattle.flatcard.specs.Verbs.{joined}

module _ (w : ℕ) (sector : ℕ → List ℕ) where
  -- one more page goes to one bank
  dealt_more : (n d : ℕ) → length (dealt w sector (suc n) d) ≡ length (dealt w sector n d) + tally (eqb (n % w) d)
  unfolding dealt
  dealt_more n d = length-append (dealt w sector n d) (cond (eqb (n % w) d) (page sector n ∷ []) [])
      ∙ ap (λ (x : ℕ). length (dealt w sector n d) + x)
      (cond_both (eqb (n % w) d) (page sector n ∷ []) [] (λ (x : List (List ℕ)). length x ≡ tally (eqb (n % w) d)) (λ t. sym (cond-true (eqb (n % w) d) 1 0 t)) (λ t. sym (cond-false (eqb (n % w) d) 1 0 t)))

  -- of a round of w pages each bank gets one, and the first banks get theirs first
  dealt_within : (p d j n : ℕ) → d < w → j ≤ w → length (dealt w sector (p * w) d) ≡ n → length (dealt w sector (p * w + j) d) ≡ n + tally (ltb d j)
  dealt_within p d zero n l k e = simp add-zero (e ∙ grind (arith, nat_tests))
  dealt_within p d (suc j) n l k e =
      let i = dealt_within p d j n l (omega arith) e in
      let s = dealt_more (p * w + j) d in
      let q = mod-mul-add p w j (omega arith) in
      simp add-suc (s ∙ rw q (grind (arith, nat_tests, i)))

  dealt_none : (d : ℕ) → length (dealt w sector 0 d) ≡ 0
  unfolding dealt
  dealt_none d = refl

  dealt_whole : (p d : ℕ) → d < w → length (dealt w sector (p * w) d) ≡ p
  dealt_whole zero d l = simp zero-mul (dealt_none d)
  dealt_whole (suc p) d l = let i = dealt_within p d w p l (omega arith) (dealt_whole p d l) in simp suc-mul (i ∙ grind (arith, nat_tests))

  dealt_here : (i d : ℕ) → d < w → length (dealt w sector (i * w + d) d) ≡ i
  dealt_here i d l = dealt_within i d d i l (omega arith) (dealt_whole i d l) ∙ grind (arith, nat_tests)

  dealt_long : (n i d : ℕ) → d < w → i * w + d < n → i < length (dealt w sector n d)
  dealt_long zero i d l h = absurd (omega arith)
  dealt_long (suc n) i d l h = ⊎_elim
      (λ (e : i * w + d ≡ n).
      let b = subst (λ (x : ℕ). length (dealt w sector x d) ≡ i) e (dealt_here i d l) in
      let q = subst (λ (x : ℕ). x % w ≡ d) e (mod-mul-add i w d l) in
      let t = cond-true {A = ℕ} (eqb (n % w) d) 1 0 (eq-eqb (n % w) d q) in
      omega (arith, dealt_more n d, b, t))
      (λ (e : i * w + d ≡ n → ⊥). omega (arith, dealt_more n d, dealt_long n i d l (omega (arith, h, e))))
      (cases_eq (i * w + d) n)

  -- page i of bank d is page i * w + d of the zone
  pub dealt_page : (n i d : ℕ) → d < w → i * w + d < n → get_or (dealt w sector n d) i [] ≡ page sector (i * w + d)
  unfolding dealt
  dealt_page zero i d l h = absurd (omega arith)
  dealt_page (suc n) i d l h = ⊎_elim
      (λ (e : i * w + d ≡ n).
      let q = subst (λ (x : ℕ). x % w ≡ d) e (mod-mul-add i w d l) in
      let b = subst (λ (x : ℕ). length (dealt w sector x d) ≡ i) e (dealt_here i d l) in
      ap (λ (x : List (List ℕ)). get_or (dealt w sector n d ++ x) i []) (cond-true (eqb (n % w) d) (page sector n ∷ []) [] (eq-eqb (n % w) d q))
      ∙ get_or_push (dealt w sector n d) (page sector n) [] i b ∙ ap (page sector) (sym e))
      (λ (e : i * w + d ≡ n → ⊥).
      let k : i * w + d < n = omega (arith, h, e) in
      get_or_append_left (dealt w sector n d) (cond (eqb (n % w) d) (page sector n ∷ []) []) [] i (dealt_long n i d l k) ∙ dealt_page n i d l k)
      (cases_eq (i * w + d) n)

-- a sector of several, one after another
module _ (sector : ℕ → List ℕ) (long : (t : ℕ) → length (sector t) ≡ 512) where
  joined_at : (s n q : ℕ) → q < n → take 512 (drop (q * 512) (joined sector s n)) ≡ sector (s + q)
  joined_at s zero q h = absurd (omega arith)
  joined_at s (suc n) zero h = take_at (sector s) (joined sector (s + 1) n) 512 (long s) ∙ ap sector (sym (add-zero s))
  joined_at s (suc n) (suc q) h =
      let cut : suc q * 512 ≡ 512 + q * 512 = omega arith in
      let next : s + 1 + q ≡ s + suc q = omega arith in
      ap (λ x. take 512 (drop x (joined sector s (suc n)))) cut
      ∙ ap (take 512) (sym (drop-drop (q * 512) 512 (joined sector s (suc n))))
      ∙ ap (λ x. take 512 (drop (q * 512) x)) (drop_at (sector s) (joined sector (s + 1) n) 512 (long s))
      ∙ joined_at (s + 1) n q (omega arith) ∙ ap sector next

  pub page_quarter : (j q : ℕ) → q < 4 → quarter_of (page sector j) q ≡ sector (4 * j + q)
  page_quarter j q h = joined_at (4 * j) 4 q h
