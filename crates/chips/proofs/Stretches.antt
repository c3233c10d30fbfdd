-- Stretches of bytes: what is put among them, and what stays.
use Rattle.std.proofs.Common.{◌≡◌, ℕ, suc, ◌+◌, ◌<◌, ◌≤◌, Bool, true, ◌&&◌, ◌⊎◌, List, ◌++◌, length, get_or, take, drop, Decides, sym, ap, ◌∙◌, ⊎_elim, arith}
use mathlib.Core.Bool.{and_comm}
use Rattle.std.proofs.lemmas.List.{drop-drop, ext_get_or, get_or-drop, get_or-take, length-append, length-drop, length-take, places, append_assoc}
use Rattle.std.proofs.lemmas.Bool.{cases_lt}
use Rattle.std.proofs.lemmas.Bool.Decides.{Decides-below_and}
use borrow.Rule.Slice.PartMut.{put_mid}
use Rattle.chips.specs.ImageLayout.{put}

-- two parts of the same bytes
same_part : (xs ys : List ℕ) (n k m : ℕ) → length (take m (drop n xs)) ≡ length (take m (drop k ys)) → ((i : ℕ) → i < m → get_or xs (n + i) 0 ≡ get_or ys (k + i) 0) → take m (drop n xs) ≡ take m (drop k ys)
same_part xs ys n k m e h =
    ext_get_or 0 (take m (drop n xs)) (take m (drop k ys)) e (λ i l.
    let low : i < m = omega (arith, length-take m (drop n xs)) in
    get_or-take m (drop n xs) i 0 low ∙ (get_or-drop n xs i 0 ∙ (h i low ∙ (sym (get_or-drop k ys i 0) ∙ sym (get_or-take m (drop k ys) i 0 low)))))

-- `new` from the place n on
module _ (n : ℕ) (new bytes : List ℕ) (fits : n + length new ≤ length bytes) where
  pub length-put : length (put n new bytes) ≡ length bytes
  length-put = simp (length-append, length-take, length-drop) (omega arith)

  put_inside : (k j : ℕ) → n + j ≡ k → j < length new → get_or (put n new bytes) k 0 ≡ get_or new j 0
  put_inside k j e h = grind (arith, places)

  pub put_outside : (k : ℕ) → (n ≤ k → k < n + length new → ⊥) → get_or (put n new bytes) k 0 ≡ get_or bytes k 0
  put_outside k h = ⊎_elim (λ l. grind (arith, places)) (λ l. let u : n + length new ≤ k = omega (arith, h l) in grind (arith, places)) (cases_lt k n)

  -- a part of what is put, and a part of what stays
  pub put_part : (k j m : ℕ) → n + j ≡ k → j + m ≤ length new → take m (drop k (put n new bytes)) ≡ take m (drop j new)
  put_part k j m e h =
      same_part (put n new bytes) new k j m (simp (length-take, length-drop) (omega (arith, length-put))) (λ i l. put_inside (k + i) (j + i) (omega arith) (omega arith))

  pub put_apart : (k m : ℕ) → (k + m ≤ n) ⊎ (n + length new ≤ k) → take m (drop k (put n new bytes)) ≡ take m (drop k bytes)
  put_apart k m h =
      same_part (put n new bytes) bytes k k m (simp (length-take, length-drop) (omega (arith, length-put))) (λ i l. put_outside (k + i) (λ a b. ⊎_elim (λ x. omega arith) (λ x. omega arith) h))

-- what a write to a part of a slice makes of it
pub put_mid_put : (n k : ℕ) (bytes new : List ℕ) → k ≡ length new → put_mid n k bytes new ≡ put n new bytes
put_mid_put n k bytes new e =
    ap (λ l. take n bytes ++ (new ++ drop l (drop n bytes))) e
    ∙ (ap (λ x. take n bytes ++ (new ++ x)) (drop-drop (length new) n bytes) ∙ sym (append_assoc (take n bytes) new (drop (n + length new) bytes)))

-- a test f of all that are below a number, by a test p of each
pub each_below : (f p : ℕ → Bool) (none : f 0 ≡ true) (more : (n : ℕ) → f (suc n) ≡ (f n && p n)) (n : ℕ) → Decides (f n) ((k : ℕ) → k < n → p k ≡ true)
each_below f p none more n = Decides-below_and p (λ k. p k ≡ true) f (λ k. (λ e. e, λ e. e)) none (λ m. more m ∙ and_comm (f m) (p m)) n
