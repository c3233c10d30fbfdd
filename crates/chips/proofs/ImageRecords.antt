-- The record of a block: which of its pages stand, what a page that is written changes of it, and a blank one.
use Rattle.std.proofs.Common.{◌≡◌, ℕ, zero, suc, ◌+◌, ◌-◌, ◌*◌, ◌<◌, ◌≤◌, min, Bool, true, false, cond, not, ltb, nat_eq, ◌≢◌, List, [], ◌∷◌, ◌++◌, map, length, get_or, take, drop, replicate, Decides, MatchOption, None, Option, Some, inl, inr, sym, subst, refl, ap, ◌∙◌, ⊎_elim, arith}
use Rattle.std.specs.Cmp.Lexicographic.{pointwise}
use Rattle.std.specs.List.{list_all, position_or_len, prefix_len, range_with_len}
use Rattle.std.proofs.lemmas.Bool.{and_from, and_parts, cases_Bool, cases_eq, cases_lt, cond-false, cond-true, lt-ltb}
use Rattle.std.proofs.lemmas.Bool.Decides.{nat_tests, same_from_decides}
use Rattle.std.proofs.lemmas.List.{drop-drop, drop-replicate, drop-take, length-replicate, take_all, take-replicate, take-take}
use Rattle.std.proofs.lemmas.List.FromFn.{get_or-map-range_with_len, length-map-range_with_len, map-range_with_len_more}
use Rattle.std.proofs.lemmas.List.Sums.{prefix_len-le-length, prefix_len_is, prefix_len_passes}
use Rattle.flash.specs.Calls.{written}
use Rattle.flash.specs.declared.Shape.{Shape}
use Rattle.chips.specs.ImageBlank.{blank_block}
use Rattle.chips.specs.ImageBounded.{standing_most}
use Rattle.chips.specs.ImageLayout.{blank_mark, block_in, block_mark, block_size, is_marked, lives_in, mark_fits, pages_fit, page_in, page_record, page_start, block_fits, standing_in, standing_mark, stands, with_page}
use Rattle.chips.proofs.Chains.{list_all-map-range, pieces_back}
use Rattle.chips.proofs.Pages.{same_counted}
use Rattle.chips.proofs.Stretches.{each_below, length-put, put_apart, put_outside, put_part}

-- ---- the marks of a page
abbrev pub standing_test : List ℕ → Bool
standing_test x = is_marked x standing_mark

abbrev pub blank_test : List ℕ → Bool
blank_test x = is_marked x blank_mark

blank_stands_not : (x : List ℕ) → blank_test x ≡ true → standing_test x ≡ false
blank_stands_not [] e = refl
blank_stands_not (a ∷ []) e = grind (arith, nat_tests)
blank_stands_not (a ∷ b ∷ xs) e = grind (arith, nat_tests)

not_below : (p n : ℕ) → n ≤ p → ltb p n ≡ false
not_below p n h = grind (arith, nat_tests)

-- ---- which pages stand
module _ (r : List ℕ) where
  pub none_stand : (n : ℕ) → ((q : ℕ) → q < n → stands r q ≡ false) → standing_in r n ≡ 0
  none_stand zero h = refl
  none_stand (suc n) h = cond-false (stands r n) (suc n) (standing_in r n) (h n (omega arith)) ∙ none_stand n (λ q l. h q (omega arith))

  -- the last that stands is the page p
  pub last_stands : (n p : ℕ) → p < n → stands r p ≡ true → ((q : ℕ) → p < q → q < n → stands r q ≡ false) → standing_in r n ≡ p + 1
  last_stands zero p l e h = absurd (omega arith)
  last_stands (suc n) p l e h =
      ⊎_elim
      (λ last. cond-true (stands r n) (suc n) _ (ap (stands r) last ∙ e) ∙ omega (arith, last))
      (λ other.
      cond-false (stands r n) (suc n) _ (h n (omega (arith, other)) (omega arith))
      ∙ last_stands n p (omega (arith, other)) e (λ q a b. h q a (omega arith)))
      (cases_eq n p)

  -- where p of the first n pages stand, those from p on are not marked as standing
  past_standing : (n p : ℕ) → standing_in r n ≡ p → (q : ℕ) → p ≤ q → q < n → stands r q ≡ false
  past_standing zero p e q l h = absurd (omega arith)
  past_standing (suc n) p e q l h =
      ⊎_elim
      (λ yes. absurd (omega (arith, sym (cond-true (stands r n) (suc n) _ yes) ∙ e)))
      (λ no. ⊎_elim
      (λ last. ap (stands r) last ∙ no)
      (λ other. past_standing n p (sym (cond-false (stands r n) (suc n) _ no) ∙ e) q l (omega (arith, other)))
      (cases_eq q n))
      (cases_Bool (stands r n))

  pub pages_each : (n m : ℕ) → Decides (pages_fit r n m) ((p : ℕ) → p < m → mark_fits r n p ≡ true)
  pages_each n m = each_below (pages_fit r n) (mark_fits r n) refl (λ _. refl) m

  -- a page's record, by the places in the records of the pages alone
  page_is : (p : ℕ) → take 2050 (drop (p * 2050) (drop 4 r)) ≡ page_record r p
  page_is p = ap (take 2050) (drop-drop (p * 2050) 4 r)

  -- a quarter of a page is a part of the record
  pub quarter_is : (p q : ℕ) → q < 4 → take 512 (drop (q * 512) (page_in r p)) ≡ take 512 (drop (page_start p + 2 + q * 512) r)
  quarter_is p q h =
      let n = 2 + q * 512 in
      let e : n + (2050 - n) ≡ 2050 = omega arith in
      let rest = drop (page_start p) r in
      ap (take 512) (drop-drop (q * 512) 2 (take 2050 rest) ∙ (ap (λ x. drop n (take x rest)) (sym e) ∙ drop-take n (2050 - n) rest))
      ∙ (take-take 512 (2050 - n) (drop n rest) (omega arith)
      ∙ ap (take 512) (drop-drop n (page_start p) r ∙ ap (λ i. drop i r) {x = page_start p + n} {y = page_start p + 2 + q * 512} (omega arith)))

  -- the page p, as it is cut from the records of the pages alone
  abbrev cut : ℕ → List ℕ
  cut p = take 2050 (drop (p * 2050) (drop 4 r))

  -- ---- a search from the back: how many pages come after the last that stands
  module _ (n : ℕ) where
    abbrev pub from_back : List (List ℕ)
    from_back = pieces_back 2050 (omega arith) (drop 4 r) n

    abbrev pub after_last : ℕ
    after_last = position_or_len standing_test from_back

  standing_after : (n : ℕ) → standing_in r n + after_last n ≡ n
  standing_after zero = omega arith
  standing_after (suc n) =
      let same = ap (λ x. not (standing_test x)) (page_is n) in
      ⊎_elim
      (λ e. omega (arith, cond-true (stands r n) (suc n) (standing_in r n) e, cond-false (not (standing_test (cut n))) (1 + after_last n) 0 (same ∙ ap not e)))
      (λ e.
      omega (arith, cond-false (stands r n) (suc n) (standing_in r n) e, cond-true (not (standing_test (cut n))) (1 + after_last n) 0 (same ∙ ap not e), standing_after n))
      (cases_Bool (stands r n))

  length-from_back : (n : ℕ) → length (from_back n) ≡ n
  length-from_back zero = refl
  length-from_back (suc n) = omega (arith, length-from_back n)

  pub standing_from_back : (n : ℕ) (after : Option ℕ) (count : ℕ) → after ≡ cond (ltb (after_last n) (length (from_back n))) (Some (after_last n)) None
      → MatchOption after (count ≡ 0) (λ i. count ≡ n - i) → count ≡ standing_in r n
  standing_from_back n after count found told =
      let all = length (from_back n) in
      let last = after_last n in
      let at : (o : Option ℕ) → after ≡ o → MatchOption o (count ≡ 0) (λ i. count ≡ n - i) = λ o e. subst (λ v. MatchOption v (count ≡ 0) (λ i. count ≡ n - i)) e told in
      ⊎_elim
      (λ low. omega (arith, standing_after n, at (Some last) (found ∙ cond-true (ltb last all) (Some last) None (lt-ltb last all low))))
      (λ high. omega (arith, standing_after n, length-from_back n, at None (found ∙ cond-false (ltb last all) (Some last) None (not_below last all high))))
      (cases_lt last all)

  -- ---- a search from the front: the first m stand, and no others
  first_stand : (n m : ℕ) → m ≤ n → ((q : ℕ) → q < m → stands r q ≡ true) → ((q : ℕ) → m ≤ q → q < n → stands r q ≡ false) → standing_in r n ≡ m
  first_stand zero m l has lacks = omega arith
  first_stand (suc n) m l has lacks =
      ⊎_elim
      (λ all. cond-true (stands r n) (suc n) _ (has n (omega (arith, all))) ∙ sym all)
      (λ other. cond-false (stands r n) (suc n) _ (lacks n (omega (arith, other)) (omega arith)) ∙ first_stand n m (omega (arith, other)) has (λ q a b. lacks q a (omega arith)))
      (cases_eq m (suc n))

  -- the mark that a page must have
  mark_low : (n p : ℕ) → p < n → mark_fits r n p ≡ stands r p
  mark_low n p h = ap (λ b. is_marked (page_record r p) (cond b standing_mark blank_mark)) (lt-ltb p n h)

  mark_high : (n p : ℕ) → n ≤ p → mark_fits r n p ≡ blank_test (page_record r p)
  mark_high n p h = ap (λ b. is_marked (page_record r p) (cond b standing_mark blank_mark)) (not_below p n h)

  module _ (n : ℕ) where
    abbrev pub from_front : List (List ℕ)
    from_front = map cut (range_with_len 0 n)

    many : length from_front ≡ n
    many = length-map-range_with_len cut 0 n

    this : (p : ℕ) → p < n → get_or from_front p [] ≡ page_record r p
    this p l = get_or-map-range_with_len cut 0 n p p [] l (omega arith) ∙ page_is p

    -- how many stand before the first that does not
    abbrev pub lead : ℕ
    lead = prefix_len standing_test from_front

    pub lead_most : lead ≤ n
    lead_most = omega (arith, many, prefix_len-le-length standing_test from_front)

    lead_stands : (q : ℕ) → q < lead → stands r q ≡ true
    lead_stands q l = ap standing_test (sym (this q (omega (arith, lead_most)))) ∙ prefix_len_passes standing_test from_front q [] l

    -- and the pages after those, as they are cut where these end
    abbrev pub others : List ℕ
    others = drop (lead * 2050) (drop 4 r)

    other_is : (k p : ℕ) → lead + k ≡ p → take 2050 (drop (k * 2050) others) ≡ page_record r p
    other_is k p e =
        ap (take 2050) (drop-drop (k * 2050) (lead * 2050) (drop 4 r) ∙ ap (λ i. drop i (drop 4 r)) {x = lead * 2050 + k * 2050} {y = p * 2050} (omega (arith, e))) ∙ page_is p

    -- pages fit where all of these are blank
    pub pages_in_order : list_all blank_test (map (λ k. take 2050 (drop (k * 2050) others)) (range_with_len 0 (n - lead))) ≡ pages_fit r (standing_in r n) n
    pages_in_order =
        let s = standing_in r n in
        let each = list_all-map-range blank_test (λ k. take 2050 (drop (k * 2050) others)) (n - lead) 0 in
        same_from_decides _ _ (
          λ e p l.
              let blank : (k : ℕ) → lead ≤ k → k < n → blank_test (page_record r k) ≡ true =
              λ k a b. ap blank_test (sym (other_is (k - lead) k (omega arith))) ∙ each.0 e (k - lead) (omega arith) (omega arith) in
              let count = first_stand n lead lead_most lead_stands (λ q a b. blank_stands_not (page_record r q) (blank q a b)) in
              ⊎_elim
              (λ low. mark_low s p low ∙ lead_stands p (omega arith))
              (λ high. mark_high s p high ∙ blank p (omega arith) l)
              (cases_lt p s),
          λ h.
              let most = standing_most r n in
              let same : lead ≡ s =
              prefix_len_is standing_test from_front s [] (omega (arith, many)) (λ k l. ap standing_test (this k (omega arith)) ∙ (sym (mark_low s k l) ∙ h k (omega arith)))
              (λ l. ap standing_test (this s (omega (arith, many))) ∙ blank_stands_not (page_record r s) (sym (mark_high s s (omega arith)) ∙ h s (omega (arith, many)))) in
              each.1 (λ k a b. ap blank_test (other_is k (lead + k) (omega arith)) ∙ (sym (mark_high s (lead + k) (omega arith)) ∙ h (lead + k) (omega arith))),
        )
        (pages_each s n)

-- a number that is not the next one is below the next one where it is below this one
ltb_next : (q p : ℕ) → q ≢ p → ltb q (p + 1) ≡ ltb q p
ltb_next q p h = grind (arith, nat_tests)

-- ---- the page p is written, the first that does not stand
module _ (r page : List ℕ) (depth p : ℕ) (whole : length r ≡ 4 + 2050 * depth) (low : p < depth) (long : length page ≡ 2048) (next : standing_in r depth ≡ p) where
  abbrev now : List ℕ
  now = with_page r p page

  room : page_start p + length (standing_mark ++ page) ≤ length r
  room = omega arith

  pub length_written : length now ≡ length r
  length_written = length-put (page_start p) (standing_mark ++ page) r room

  here : page_record now p ≡ standing_mark ++ page
  here = put_part (page_start p) (standing_mark ++ page) r room (page_start p) 0 2050 (omega arith) (omega arith) ∙ take_all 2050 (standing_mark ++ page) (omega arith)

  other : (q : ℕ) → q ≢ p → page_record now q ≡ page_record r q
  other q ne =
      put_apart (page_start p) (standing_mark ++ page) r room (page_start q) 2050
      (⊎_elim (λ l. inl (omega arith)) (λ l. inr (omega (arith, ne))) (cases_lt q p))

  byte_same : (m : ℕ) → m < 4 → get_or now m 0 ≡ get_or r m 0
  byte_same m l = put_outside (page_start p) (standing_mark ++ page) r room m (λ a b. omega arith)

  mark_same : is_marked now block_mark ≡ is_marked r block_mark
  mark_same = ap (pointwise nat_eq block_mark) (put_apart (page_start p) (standing_mark ++ page) r room 0 2 (inl (omega arith)))

  standing_written : standing_in now depth ≡ p + 1
  standing_written =
      last_stands now depth p low (ap (λ x. is_marked x standing_mark) here)
      (λ q a b. ap (λ x. is_marked x standing_mark) (other q (λ e. omega arith)) ∙ past_standing r depth p next q (omega arith) b)

  pages_written : map (page_in now) (range_with_len 0 (p + 1)) ≡ map (page_in r) (range_with_len 0 p) ++ page ∷ []
  pages_written =
      map-range_with_len_more (page_in now) 0 p p (omega arith)
      ∙ (λ t. same_counted (page_in now) (page_in r) p (λ q l. ap (drop 2) (other q (λ e. omega arith))) t ++ ap (drop 2) here t ∷ [])

  pub block_written : block_in now depth ≡ written (block_in r depth) page
  block_written =
      let pages = ap (λ n. map (page_in now) (range_with_len 0 n)) standing_written ∙ (pages_written ∙ ap (λ n. map (page_in r) (range_with_len 0 n) ++ page ∷ []) (sym next)) in
      λ t. record { pages = pages t; lives = min (byte_same 2 (omega arith) t + byte_same 3 (omega arith) t * 256) 65535 }

  pub fits_written : block_fits r depth ≡ true → block_fits now depth ≡ true
  fits_written fits =
      let was = and_parts (is_marked r block_mark) _ fits in
      let marks = (pages_each r p depth).0 (ap (λ n. pages_fit r n depth) (sym next) ∙ was.1) in
      and_from (is_marked now block_mark) _ (mark_same ∙ was.0)
      (ap (λ n. pages_fit now n depth) standing_written
      ∙ (pages_each now (p + 1) depth).1 (λ q l.
      ⊎_elim
      (λ same.
      let low : ltb q (p + 1) ≡ true = lt-ltb q (p + 1) (omega (arith, same)) in
      λ t. is_marked ((ap (page_record now) same ∙ here) t) (cond (low t) standing_mark blank_mark))
      (λ ne. (λ t. is_marked (other q ne t) (cond (ltb_next q p ne t) standing_mark blank_mark)) ∙ marks q l)
      (cases_eq q p)))

-- ---- a blank record
module _ (s : Shape) (lives : ℕ) where
  abbrev blank : List ℕ
  blank = blank_block s lives

  pub length-blank : length blank ≡ block_size s
  length-blank = omega (arith, length-replicate {A = ℕ} (2050 * s.pages) 255)

  page_blank : (p : ℕ) → p < s.pages → page_record blank p ≡ replicate 2050 255
  page_blank p l =
      ap (take 2050) (sym (drop-drop (p * 2050) 4 blank) ∙ drop-replicate (p * 2050) (2050 * s.pages) 255)
      ∙ take-replicate 2050 (2050 * s.pages - p * 2050) 255 (omega arith)

  standing_blank : standing_in blank s.pages ≡ 0
  standing_blank = none_stand blank s.pages (λ q l. ap (λ x. is_marked x standing_mark) (page_blank q l))

  pub fits_blank : block_fits blank s.pages ≡ true
  fits_blank =
      ap (λ n. pages_fit blank n s.pages) standing_blank
      ∙ (pages_each blank 0 s.pages).1 (λ q l. λ t. is_marked (page_blank q l t) (cond (not_below q 0 (omega arith) t) standing_mark blank_mark))

  pub block_blank : lives < 65536 → block_in blank s.pages ≡ record { pages = []; lives = lives }
  block_blank h =
      let same : lives_in blank ≡ lives = omega arith in
      λ t. record { pages = map (page_in blank) (range_with_len 0 (standing_blank t)); lives = same t }
