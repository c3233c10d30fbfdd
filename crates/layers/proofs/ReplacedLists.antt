-- The bad blocks of a bank, counted.
use Rattle.std.proofs.Common.{◌≡◌, ℕ, zero, suc, ◌+◌, ◌-◌, ◌≤◌, not, leb, List, ◌∷◌, ◌++◌, length, refl, ap, ◌∙◌, add-zero, zero-add, arith}
use Rattle.std.specs.List.{range_with_len}
use Rattle.std.proofs.lemmas.Bool.Decides.{nat_tests}
use Rattle.std.proofs.lemmas.List.{length-append}
use Rattle.std.proofs.lemmas.List.Elements.{filter-append}
use Rattle.std.proofs.lemmas.List.Filters.{length-filter_both}
use Rattle.std.proofs.lemmas.List.FromFn.{length-range_with_len}
use Rattle.flash.specs.declared.BlockAddress.{BlockAddress}
use Rattle.flash.specs.Maps.{bad_of, good_of, is_bad}
use Rattle.layers.specs.Replaced.{bank_enough}

-- the numbers of a range cut in two
range_cut : (a m n : ℕ) → range_with_len a (m + n) ≡ range_with_len a m ++ range_with_len (a + m) n
range_cut a zero n = simp (zero-add, add-zero)
range_cut a (suc m) n =
    let more : suc m + n ≡ suc (m + n) = omega arith in
    let same : a + 1 + m ≡ a + suc m = omega arith in
    ap (range_with_len a) more ∙ ap (λ xs. a ∷ xs) (range_cut (a + 1) m n ∙ ap (λ b. range_with_len (a + 1) m ++ range_with_len b n) same)

-- of the first k blocks, those among the first m and among the n after them
pub bad_cut : (bad : List BlockAddress) (bank m n k : ℕ) → m + n ≡ k
    → length (bad_of bad bank (range_with_len 0 k)) ≡ length (bad_of bad bank (range_with_len 0 m)) + length (bad_of bad bank (range_with_len m n))
bad_cut bad bank m n k is = simp (is, filter-append {X = ℕ}, length-append {A = ℕ}, zero-add) at (ap (λ xs. length (bad_of bad bank xs)) (range_cut 0 m n))

-- each block is bad or good
bad_or_good : (bad : List BlockAddress) (bank a n : ℕ) → length (bad_of bad bank (range_with_len a n)) + length (good_of bad bank (range_with_len a n)) ≡ n
bad_or_good bad bank a n = length-filter_both (λ k. is_bad bad bank k) (λ k. not (is_bad bad bank k)) (λ _. refl) (range_with_len a n) ∙ length-range_with_len a n

-- a bank has good spares enough just where its bad blocks in all, n of them, are no more than the spares
pub bank_enough_is : (n blocks spares : ℕ) (bad : List BlockAddress) (bank : ℕ) → n ≡ length (bad_of bad bank (range_with_len 0 blocks)) → leb n spares ≡ bank_enough blocks spares bad bank
bank_enough_is n blocks spares bad bank is =
    let shown = blocks - spares in
    let cut = λ (h : spares ≤ blocks). bad_cut bad bank shown spares blocks (omega arith) in
    grind (arith, nat_tests, bad_or_good bad bank 0 blocks, bad_or_good bad bank 0 shown, bad_or_good bad bank shown spares)
