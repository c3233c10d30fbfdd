-- Closures that are called at the numbers of a range, one by one, and that no call changes.
use Rattle.std.proofs.Common.{◌≡◌, ℕ, zero, suc, ◌+◌, ◌<◌, ◌≤◌, Bool, List, get_or, refl, ap, ◌∙◌, subst, ⊎_elim, arith}
use Rattle.std.proofs.iter.Yields.{nat_range_steps}
use Rattle.std.proofs.lemmas.Bool.{cases_eq}
use Rattle.std.proofs.lemmas.Iterator.{YieldsList-from_range}
use Rattle.std.proofs.lemmas.Iterator.Search.{any_from_yields_List}
use Rattle.std.specs.Array.{IsFromFnResult, IsFromFnResultFrom}
use Rattle.std.specs.Fn.{Called}
use Rattle.std.specs.Iterator.{ChecksAny}
use Rattle.std.specs.declared.ops.Range.{Range}
use Rattle.flatcard.specs.Verbs.{any}
use Rattle.flatcard.proofs.Counting.{any_list}
use denote.Param.Members.{Mut}

-- whether some number below n passes, asked of an iterator over them, which may stop before its end
pub any_asked : {F : Type 0} {ask : Mut F (ℕ × Unit {0}) Bool} (n : ℕ) (test : ℕ → Bool) (f : F) (r : Bool) (left : Range ℕ)
    → ChecksAny nat_range_steps ask (record { start = 0; end = n }) f r left
    → ((x : ℕ) (b : Bool) (q : F) → Called ask f (x, tt) b q → (q ≡ f) × (b ≡ test x)) → r ≡ any n test
any_asked n test f r left ran asked = any_from_yields_List test left f r ran (YieldsList-from_range 0 n n refl (omega arith)) asked ∙ any_list n test

-- the elements of an array, made from their indices
module _ {F B : Type 0} (make : Mut F (ℕ × Unit {0}) B) (f : F) (value : ℕ → B)
    (made : (x : ℕ) (y : B) (q : F) → Called make f (x, tt) y q → (q ≡ f) × (y ≡ value x)) (ys : List B) where
  made_from : (n i : ℕ) → IsFromFnResultFrom make f ys i n → (k : ℕ) (d : B) → i ≤ k → k < i + n → get_or ys k d ≡ value k
  made_from zero i r k d h l = absurd (omega arith)
  made_from (suc n) i (q, y, at, called, rest) k d h l = ⊎_elim
      (λ (e : k ≡ i). ap (λ j. get_or ys j d) e ∙ at.1 d ∙ (made i y q called).1 ∙ ap value (omega arith))
      (λ (e : k ≡ i → ⊥). made_from n (i + 1) (subst (λ p. IsFromFnResultFrom make p ys (i + 1) n) (made i y q called).0 rest) k d (omega arith) (omega arith))
      (cases_eq k i)

  pub each_made : (n : ℕ) → IsFromFnResult make f ys n → (k : ℕ) (d : B) → k < n → get_or ys k d ≡ value k
  each_made n r k d l = made_from n 0 r.each k d (omega arith) (omega arith)
