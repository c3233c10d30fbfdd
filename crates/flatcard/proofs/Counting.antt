-- Tests of every number below a bound, and the list of those numbers.
use Rattle.std.proofs.Common.{◌≡◌, ℕ, zero, suc, ◌+◌, ◌<◌, Bool, true, false, ◌||◌, [], ◌∷◌, ◌++◌, length, get_or, sym, refl, ap, ◌∙◌, ⊎_elim, zero-add, add-zero, arith}
use Rattle.std.specs.List.{list_any, range_with_len}
use Rattle.std.proofs.lemmas.List.{length-append, get_or_append_left, get_or_push}
use Rattle.std.proofs.lemmas.Bool.{cases_eq, or_parts}
use Rattle.flatcard.specs.Verbs.{any, range}

-- if none passes, each does not
pub any_each : (n : ℕ) (p : ℕ → Bool) → any n p ≡ false → (i : ℕ) → i < n → p i ≡ false
any_each zero p e i l = absurd (omega arith)
any_each (suc n) p e i l =
    let both = or_parts (p n) (any n p) e in
    ⊎_elim (λ (h : i ≡ n). ap p h ∙ both.0) (λ (h : i ≡ n → ⊥). any_each n p both.1 i (omega arith)) (cases_eq i n)

-- the number that is tested last, tested first
any_front : (n : ℕ) (p : ℕ → Bool) → any (suc n) p ≡ (p 0 || any n (λ i. p (suc i)))
any_front zero p = refl
any_front (suc n) p = ap (λ b. p (suc n) || b) (any_front n p) ∙ swapped (p (suc n)) (p 0) (any n (λ i. p (suc i)))
  where
    swapped : (a b c : Bool) → (a || (b || c)) ≡ (b || (a || c))
    swapped true true c = refl
    swapped true false c = refl
    swapped false b c = refl

any_from : (n a : ℕ) (p : ℕ → Bool) → list_any p (range_with_len a n) ≡ any n (λ i. p (a + i))
any_from zero a p = refl
any_from (suc n) a p =
    let next : (i : ℕ) → a + 1 + i ≡ a + suc i = λ i. omega arith in
    ap (λ b. p a || b) (any_from n (a + 1) p ∙ ap (any n) (λ t i. p (next i t)))
    ∙ ap (λ b. p b || any n (λ i. p (a + suc i))) (sym (add-zero a))
    ∙ sym (any_front n (λ i. p (a + i)))

-- some number of the list of those below n passes
pub any_list : (n : ℕ) (p : ℕ → Bool) → list_any p (range_with_len 0 n) ≡ any n p
any_list n p = any_from n 0 p ∙ ap (any n) (λ t i. p (zero-add i t))

pub length-range : (n : ℕ) → length (range n) ≡ n
length-range zero = refl
length-range (suc n) = length-append (range n) (n ∷ []) ∙ omega (arith, length-range n)

pub get_or-range : (n i : ℕ) → i < n → get_or (range n) i 0 ≡ i
get_or-range zero i l = absurd (omega arith)
get_or-range (suc n) i l = ⊎_elim
    (λ (h : i ≡ n). ap (λ x. get_or (range n ++ (n ∷ [])) x 0) h ∙ get_or_push (range n) n 0 n (length-range n) ∙ sym h)
    (λ (h : i ≡ n → ⊥). get_or_append_left (range n) (n ∷ []) 0 i (omega (arith, length-range n)) ∙ get_or-range n i (omega arith))
    (cases_eq i n)
