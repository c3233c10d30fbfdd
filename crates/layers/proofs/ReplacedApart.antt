-- That shown blocks are found at places of the bank, and two of them at two places.
use Rattle.std.proofs.Common.{Some, ◌≡◌, ℕ, suc, ◌+◌, ◌-◌, ◌<◌, ◌≤◌, true, false, not, List, ◌∷◌, length, get_or, ap, sym, ◌∙◌, zero-add, arith}
use Rattle.std.proofs.lemmas.Option.{slice_get-get_or}
use Rattle.std.specs.List.{slice_get, All, AllPairs, range_with_len}
use Rattle.std.proofs.lemmas.List.Elements.{All-filter}
use Rattle.std.proofs.lemmas.List.FromFn.{get_or-range_with_len, length-range_with_len}
use Rattle.std.proofs.lemmas.List.Kept.{AllPairs-filter, AllPairs-from_increasing}
use Rattle.std.proofs.lemmas.List.Sums.{AllPass-from_list_all}
use Rattle.std.proofs.lemmas.Bool.Decides.{nat_tests}
use Rattle.std.proofs.lemmas.Bool.{cases_Bool, cond-false, cond-true, leb-true}
use Rattle.flash.specs.declared.BlockAddress.{BlockAddress}
use Rattle.flash.specs.Maps.{bad_of, good_of, is_bad}
use Rattle.flash.specs.Memory.{Memory, shape_of}
use Rattle.layers.specs.declared.replacer.plan.Plan.{Plan}
use Rattle.layers.specs.ReplacedPlan.{planned, shown_of}
use Rattle.layers.specs.Replaced.{bank_enough, enough, replaceable}
use Rattle.layers.specs.ReplacedPlaces.{place_in}
use Rattle.layers.proofs.ReplacedLists.{bad_cut}

-- ---- the numbers of a range
range_rises : (a n : ℕ) → AllPairs (λ x y. x < y) (range_with_len a n)
range_rises a n =
    AllPairs-from_increasing (range_with_len a n)
    (λ k h. omega (arith, length-range_with_len a n, get_or-range_with_len a n k 0 (omega (arith, length-range_with_len a n)), get_or-range_with_len a n (k + 1) 0 (omega (arith, length-range_with_len a n))))

range_within : (a n : ℕ) → All (λ x. (a ≤ x) × (x < a + n)) (range_with_len a n)
range_within a n k d h =
    let is = get_or-range_with_len a n k d (omega (arith, length-range_with_len a n)) in
    let low : k < n = omega (arith, length-range_with_len a n) in
    (omega (arith, is), omega (arith, is))

-- ---- where the bad blocks can be replaced, each bank has good spares enough
each_enough : (banks blocks spares : ℕ) (bad : List BlockAddress) → replaceable banks blocks spares bad ≡ true → (bank : ℕ) → bank < banks → bank_enough blocks spares bad bank ≡ true
each_enough banks blocks spares bad e bank h =
    let w : enough blocks spares bad banks ≡ true = grind (arith, nat_tests) in
    ap (bank_enough blocks spares bad) (sym (get_or-range_with_len 0 banks bank 0 h ∙ zero-add bank)) ∙ AllPass-from_list_all (bank_enough blocks spares bad) (range_with_len 0 banks) w bank 0 (omega (arith, length-range_with_len 0 banks))

-- ---- the places that a plan has in a bank
module _ (p : Plan) (bank : ℕ) (low : bank < p.below.banks) where
  abbrev bad : List BlockAddress
  bad = p.bad.now

  abbrev shown : ℕ
  shown = shown_of p

  -- the bad blocks before a block
  abbrev before : ℕ → ℕ
  before k = length (bad_of bad bank (range_with_len 0 k))

  abbrev goods : List ℕ
  goods = good_of bad bank (range_with_len shown p.spares)

  abbrev place : ℕ → ℕ
  place k = planned p bank k

  before_rises : (j k : ℕ) → j < k → is_bad bad bank j ≡ true → before j < before k
  before_rises j k h t =
      let cut = bad_cut bad bank j (suc (k - j - 1)) k (omega arith) in
      let rest = bad_of bad bank (range_with_len (j + 1) (k - j - 1)) in
      omega (arith, cut, ap length (cond-true (is_bad bad bank j) (j ∷ rest) rest t))

  -- a bad block is found at a good spare
  module _ (k : ℕ) (h : k < shown) (is : is_bad bad bank k ≡ true) where
    pub place_bad : place k ≡ get_or goods (before k) 0
    place_bad = cond-true (is_bad bad bank k) (get_or goods (before k) 0) k is

    pub spared : before k < length goods
    spared = omega (arith, before_rises k shown h is, leb-true (before shown) (length goods) (each_enough p.below.banks p.below.blocks p.spares bad p.can bank low))

    place_spare : (shown ≤ place k) × (place k < p.below.blocks)
    place_spare =
        let w = All-filter (λ x. not (is_bad bad bank x)) (λ x. (shown ≤ x) × (x < shown + p.spares)) (range_with_len shown p.spares) (range_within shown p.spares) (before k) 0 spared in
        (omega (arith, place_bad, w.0), omega (arith, place_bad, w.1, p.some_shown))

  pub found_spare : (k : ℕ) → k < shown → is_bad bad bank k ≡ true → slice_get goods (before k) ≡ Some (place k)
  found_spare k h is = slice_get-get_or goods (before k) 0 (spared k h is) ∙ ap Some (sym (place_bad k h is))

  place_good : (k : ℕ) → is_bad bad bank k ≡ false → place k ≡ k
  place_good k good = cond-false (is_bad bad bank k) (get_or goods (before k) 0) k good

  pub place_below : (k : ℕ) → k < shown → place k < p.below.blocks
  place_below k h =
      let spare = place_spare k h in
      let good = place_good k in
      let t = cases_Bool (is_bad bad bank k) in grind arith

  bad_rise : (j k : ℕ) → j < k → k < shown → is_bad bad bank j ≡ true → is_bad bad bank k ≡ true → place j < place k
  bad_rise j k h l s t =
      omega (
        arith,
        place_bad j (omega arith) s,
        place_bad k l t,
        AllPairs-filter (λ x y. x < y) (λ x. not (is_bad bad bank x)) (range_with_len shown p.spares) (range_rises shown p.spares) (before j) (before k) 0 (before_rises j k h s) (spared k l t),
      )

  pub place_same : (j k : ℕ) → j < shown → k < shown → place j ≡ place k → j ≡ k
  place_same j k h l e =
      let jb = place_spare j h in
      let kb = place_spare k l in
      let jg = place_good j in
      let kg = place_good k in
      let jk = bad_rise j k in
      let kj = bad_rise k j in
      let tj = cases_Bool (is_bad bad bank j) in
      let tk = cases_Bool (is_bad bad bank k) in grind arith

-- ---- rows with these places, over a flash of the plan's shape
module _ (p : Plan) (m : Memory) (over : p.below ≡ shape_of m) (shown : ℕ) (some : shown ≡ shown_of p) (rows : List (List ℕ))
    (have : (b k : ℕ) → b < p.below.banks → k < shown_of p → place_in rows b k ≡ planned p b k) where
  pub rows_low : (b k : ℕ) → b < m.banks → k < shown → place_in rows b k < m.blocks
  rows_low b k h l =
      let bank : b < p.below.banks = omega (arith, h, ap (λ s. s.banks) over) in
      let is : k < shown_of p = omega arith in
      omega (arith, have b k bank is, place_below p b bank k is, ap (λ s. s.blocks) over)

  pub rows_apart : (b j k : ℕ) → b < m.banks → j < shown → k < shown → place_in rows b j ≡ place_in rows b k → j ≡ k
  rows_apart b j k h l n e =
      let bank : b < p.below.banks = omega (arith, h, ap (λ s. s.banks) over) in
      let first : j < shown_of p = omega arith in
      let other : k < shown_of p = omega arith in
      place_same p b bank j k first other (sym (have b j bank first) ∙ (e ∙ have b k bank other))
