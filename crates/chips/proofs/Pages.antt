-- What a page that is written changes of the bytes, and what it leaves.
use Rattle.std.proofs.Common.{◌≡◌, ℕ, ◌+◌, ◌-◌, ◌*◌, ◌/◌, ◌%◌, ◌<◌, ◌≤◌, ◌≢◌, List, [], ◌∷◌, ◌++◌, map, length, take, drop, sym, ap, ◌∙◌, ⊎_elim, arith}
use Rattle.std.specs.List.{range_with_len}
use Rattle.std.proofs.lemmas.List.{length-append, length-drop, length-take, drop-take, take-take, drop-drop}
use Rattle.std.proofs.lemmas.List.FromFn.{fill_by_all, length-map-range_with_len, get_or-map-range_with_len, map-range_with_len_more}
use Rattle.std.proofs.lemmas.Slice.{between-put_mid, drop-put_mid, take-put_mid_below}
use Rattle.std.proofs.lemmas.Nat.{div-mul-add, mod-mul-add}
use Rattle.std.proofs.lemmas.Bool.{cases_order}
use borrow.Rule.Slice.PartMut.{put_mid}
use Rattle.flash.specs.Calls.{quarter_of}
use Rattle.chips.specs.Layout.{Parts, made_of, page_at, pages_at}

-- the bytes with a page written at the number j
abbrev pub put_page : List ℕ → ℕ → List ℕ → List ℕ
put_page bytes j page = put_mid (j * 2048) 2048 bytes page

module _ (bytes page : List ℕ) (j : ℕ) (fits : j * 2048 + 2048 ≤ length bytes) (long : length page ≡ 2048) where
  pub put_page_long : length (put_page bytes j page) ≡ length bytes
  put_page_long =
      let a = j * 2048 in
      let rest = drop 2048 (drop a bytes) in
      omega (arith, length-append (take a bytes) (page ++ rest), length-append page rest, length-take a bytes, length-drop 2048 (drop a bytes), length-drop a bytes)

  page_at_same : page_at (put_page bytes j page) j ≡ page
  page_at_same =
      let a = j * 2048 in
      let e : 2048 ≡ a + 2048 - a = omega arith in
      ap (λ n. take n (drop a (put_page bytes j page))) e ∙ between-put_mid a 2048 bytes page (a + 2048) (omega arith) (omega arith)

  page_at_before : (k : ℕ) → k < j → page_at (put_page bytes j page) k ≡ page_at bytes k
  page_at_before k h =
      let n = k * 2048 in
      sym (drop-take n 2048 (put_page bytes j page))
      ∙ (ap (drop n) (take-put_mid_below (j * 2048) 2048 bytes page (n + 2048) (omega arith) (omega arith)) ∙ drop-take n 2048 bytes)

  page_at_after : (k : ℕ) → j < k → page_at (put_page bytes j page) k ≡ page_at bytes k
  page_at_after k h = ap (take 2048) (drop-put_mid (j * 2048) 2048 bytes page (k * 2048) (omega arith) (omega arith) long)

  page_at_other : (k : ℕ) → k ≢ j → page_at (put_page bytes j page) k ≡ page_at bytes k
  page_at_other k other = ⊎_elim (λ e. absurd (other e)) (⊎_elim (page_at_before k) (page_at_after k)) (cases_order k j)

-- a number has one row and one column
pub same_row : (a b w p q : ℕ) → p < w → q < w → a * w + p ≡ b * w + q → a ≡ b
same_row a b w p q h l e = sym (div-mul-add a w p h) ∙ (ap (λ x. x / w) e ∙ div-mul-add b w q l)

pub same_column : (a b w p q : ℕ) → p < w → q < w → a * w + p ≡ b * w + q → p ≡ q
same_column a b w p q h l e = sym (mod-mul-add a w p h) ∙ (ap (λ x. x % w) e ∙ mod-mul-add b w q l)

-- two lists made by functions that agree
pub same_counted : {X : Type 0} (f g : ℕ → X) (n : ℕ) → ((p : ℕ) → p < n → f p ≡ g p) → map f (range_with_len 0 n) ≡ map g (range_with_len 0 n)
same_counted f g n h =
    fill_by_all g (map f (range_with_len 0 n)) n (f 0) (length-map-range_with_len f 0 n) (λ k l. get_or-map-range_with_len f 0 n k k (f 0) l (omega arith) ∙ h k l)

-- the pages of a block, once a page is written
module _ (c : Parts) (page : List ℕ) (i n : ℕ) (fits : (i * c.shape.pages + n) * 2048 + 2048 ≤ length c.bytes) (long : length page ≡ 2048) where
  -- c with a page written as the page n of the block i
  abbrev with_page : Parts
  with_page = made_of c.shape (put_page c.bytes (i * c.shape.pages + n) page) c.records

  -- the block that has the page
  pub pages_at_same : pages_at with_page i (n + 1) ≡ pages_at c i n ++ page ∷ []
  pages_at_same =
      let j = i * c.shape.pages + n in
      map-range_with_len_more (λ p. page_at with_page.bytes (i * c.shape.pages + p)) 0 n n (omega arith)
      ∙ (λ t. same_counted (λ p. page_at with_page.bytes (i * c.shape.pages + p)) (λ p. page_at c.bytes (i * c.shape.pages + p)) n
      (λ p h. page_at_other c.bytes page j fits long (i * c.shape.pages + p) (λ e. omega arith)) t
      ++ page_at_same c.bytes page j fits long t ∷ [])

  -- another block
  pub pages_at_other : (k m : ℕ) → n < c.shape.pages → m ≤ c.shape.pages → k ≢ i → pages_at with_page k m ≡ pages_at c k m
  pages_at_other k m l u other =
      same_counted (λ p. page_at with_page.bytes (k * c.shape.pages + p)) (λ p. page_at c.bytes (k * c.shape.pages + p)) m
      (λ p h. page_at_other c.bytes page (i * c.shape.pages + n) fits long (k * c.shape.pages + p) (λ e. other (same_row k i c.shape.pages p n (omega arith) l e)))

-- a quarter of a page is a part of the bytes: of the page that begins at m, and of the page with the number j
pub quarter_in : (bytes : List ℕ) (m q : ℕ) → q < 4 → quarter_of (take 2048 (drop m bytes)) q ≡ take 512 (drop (m + q * 512) bytes)
quarter_in bytes m q h =
    let n = q * 512 in
    let e : n + (2048 - n) ≡ 2048 = omega arith in
    ap (take 512) (ap (λ x. drop n (take x (drop m bytes))) (sym e) ∙ drop-take n (2048 - n) (drop m bytes))
    ∙ (take-take 512 (2048 - n) (drop n (drop m bytes)) (omega arith) ∙ ap (take 512) (drop-drop n m bytes))

pub quarter_at : (bytes : List ℕ) (j q : ℕ) → q < 4 → quarter_of (page_at bytes j) q ≡ take 512 (drop (j * 2048 + q * 512) bytes)
quarter_at bytes j q h = quarter_in bytes (j * 2048) q h

-- what the copy of a page into its place makes of the bytes
pub copied_page : (bytes page part : List ℕ) (j : ℕ) → part ≡ page → put_mid (j * 2048) (j * 2048 + 2048 - j * 2048) bytes part ≡ put_page bytes j page
copied_page bytes page part j e =
    let s : j * 2048 + 2048 - j * 2048 ≡ 2048 = omega arith in
    λ t. put_mid (j * 2048) (s t) bytes (e t)
