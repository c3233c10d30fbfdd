-- What an image shows of one block, and of all blocks after the record of one has changed.
use Rattle.std.proofs.Common.{◌≡◌, ℕ, ◌+◌, ◌*◌, ◌<◌, ◌≤◌, true, ◌&&◌, eqb, nat_eq, ◌≢◌, List, [], ◌∷◌, map, length, get_or, take, drop, Bool, MatchBool, false, subst, Decides, inl, inr, sym, refl, ap, ◌∙◌, ⊎_elim, arith}
use Rattle.std.specs.Cmp.Lexicographic.{pointwise}
use Rattle.std.specs.List.{AllWithin, HoldsAt, range_with_len}
use Rattle.std.proofs.lemmas.Bool.{and_from, and_parts, both_ways, cases_Bool, cases_eq, cases_lt, cond-true}
use Rattle.std.proofs.lemmas.List.{drop-drop, take_all}
use Rattle.std.proofs.lemmas.List.FromFn.{get_or-map-range_with_len, length-map-range_with_len}
use Rattle.std.proofs.lemmas.Nat.{mul-le}
use Rattle.flash.specs.Calls.{with_block}
use Rattle.flash.specs.declared.Shape.{Shape}
use Rattle.chips.specs.ImageBounded.{Named, block_within, block_long}
use Rattle.chips.specs.ImageLayout.{block_in, block_size, block_start, header_mark, image_length, image_sizes_fit, is_image, named_shape, block_record, block_fits, blocks_fit, shape_in, stored, with_record}
use Rattle.chips.specs.Layout.{block_count, shape_fits}
use Rattle.chips.specs.Shapes.{no_shape}
use Rattle.chips.proofs.Numbered.{numbered_changed}
use Rattle.chips.proofs.Stretches.{each_below, length-put, put_apart, put_outside, put_part}

pub blocks_each : (s : Shape) (bytes : List ℕ) (n : ℕ) → Decides (blocks_fit s bytes n) ((i : ℕ) → i < n → block_fits (block_record s bytes i) s.pages ≡ true)
blocks_each s bytes n = each_below (blocks_fit s bytes) (λ i. block_fits (block_record s bytes i) s.pages) refl (λ _. refl) n

-- what a test of each record of an image finds
module _ (s : Shape) (bytes : List ℕ) (sizes : image_sizes_fit s bytes ≡ true) where
  abbrev pub records : List (List ℕ)
  records = map (λ i. take (block_size s) (drop (i * block_size s) (drop 6 bytes))) (range_with_len 0 (block_count s))

  abbrev pub Fits : Bool → List ℕ → Type 0
  Fits t r = length r ≡ block_size s → block_fits r s.pages ≡ t

  count : length records ≡ block_count s
  count = length-map-range_with_len (λ i. take (block_size s) (drop (i * block_size s) (drop 6 bytes))) 0 (block_count s)

  record_is : (i : ℕ) → i < block_count s → get_or records i [] ≡ block_record s bytes i
  record_is i h =
      get_or-map-range_with_len (λ i. take (block_size s) (drop (i * block_size s) (drop 6 bytes))) 0 (block_count s) i i [] h (omega arith)
      ∙ ap (take (block_size s)) (drop-drop (i * block_size s) 6 bytes)

  fits_is : (i : ℕ) (t : Bool) → i < block_count s → Fits t (get_or records i []) → block_fits (block_record s bytes i) s.pages ≡ t
  fits_is i t h fits = (subst (Fits t) (record_is i h) fits) (block_long s bytes i sizes h)

  pub blocks_in_order : (t : Bool) → MatchBool t (AllWithin (Fits true) records 0 (length records)) ((k : ℕ) × (k < length records) × HoldsAt (Fits false) records k)
      → t ≡ blocks_fit s bytes (block_count s)
  blocks_in_order true h =
      sym ((blocks_each s bytes (block_count s)).1 (λ i l. fits_is i true l (h i [] (omega arith) (omega (arith, count)))))
  blocks_in_order false (k, l, other) =
      let low : k < block_count s = omega (arith, count) in
      ⊎_elim
      (λ yes. absurd (both_ways _ (fits_is k false low (other [])) ((blocks_each s bytes (block_count s)).0 yes k low)))
      (λ e. sym e)
      (cases_Bool (blocks_fit s bytes (block_count s)))

-- the tests of an image whose header names the shape s
named_blocks : (s : Shape) (bytes : List ℕ) → Named s bytes → blocks_fit s bytes (block_count s) ≡ true
named_blocks s bytes named =
    let rest = (and_parts (header_mark bytes) _ named.image).1 in
    ap (λ v. blocks_fit v bytes (block_count v)) named.shape ∙ (and_parts (image_sizes_fit (shape_in bytes) bytes) _ rest).1

-- the record of the block with the number i is r now
module _ (s : Shape) (bytes r : List ℕ) (i : ℕ) (sizes : image_sizes_fit s bytes ≡ true) (there : i < block_count s) (long : length r ≡ block_size s) where
  abbrev now : List ℕ
  now = with_record s bytes i r

  room : block_start s i + length r ≤ length bytes
  room = omega (arith, block_within s bytes i sizes there)

  long_now : length now ≡ length bytes
  long_now = length-put (block_start s i) r bytes room

  sizes_now : image_sizes_fit s now ≡ true
  sizes_now = (λ t. shape_fits s && eqb (long_now t) (image_length s)) ∙ sizes

  record_now : block_record s now i ≡ r
  record_now = put_part (block_start s i) r bytes room (block_start s i) 0 (block_size s) (omega arith) (omega arith) ∙ take_all (block_size s) r (omega arith)

  record_other : (j : ℕ) → j ≢ i → block_record s now j ≡ block_record s bytes j
  record_other j ne =
      let z = block_size s in
      put_apart (block_start s i) r bytes room (block_start s j) z
      (⊎_elim
      (λ l. inl (omega (arith, mul-le (j + 1) z i z (omega arith) (omega arith))))
      (λ l. let more : i < j = omega (arith, ne) in inr (omega (arith, mul-le (i + 1) z j z (omega arith) (omega arith))))
      (cases_lt j i))

  pub stored_now : (b k : ℕ) → b < s.banks → k < s.blocks → i ≡ b * s.blocks + k → stored s now ≡ with_block (stored s bytes) b k (block_in r s.pages)
  stored_now b k bank block number =
      numbered_changed s (λ j. block_in (block_record s bytes j) s.pages) b k i bank block number (λ j. block_in (block_record s now j) s.pages)
      (λ j _ ne. ap (λ x. block_in x s.pages) (record_other j ne))
      ∙ ap (λ x. with_block (stored s bytes) b k (block_in x s.pages)) record_now

  header_byte : (n : ℕ) → n < 6 → get_or now n 0 ≡ get_or bytes n 0
  header_byte n l = put_outside (block_start s i) r bytes room n (λ a b. omega arith)

  header_same : header_mark now ≡ header_mark bytes
  header_same = ap (pointwise nat_eq (0x43 ∷ 0x49 ∷ 0x01 ∷ [])) (put_apart (block_start s i) r bytes room 0 3 (inl (omega arith)))

  shape_same : shape_in now ≡ shape_in bytes
  shape_same = λ t. record { banks = header_byte 3 (omega arith) t; blocks = header_byte 4 (omega arith) t; pages = header_byte 5 (omega arith) t }

  pub named_now : Named s bytes → (block_fits (block_record s bytes i) s.pages ≡ true → block_fits r s.pages ≡ true) → s ≡ named_shape now
  named_now named fit =
      let shape : shape_in now ≡ s = shape_same ∙ sym named.shape in
      let fits = (blocks_each s bytes (block_count s)).0 (named_blocks s bytes named) in
      let still =
      and_from (header_mark now) _ (header_same ∙ (and_parts (header_mark bytes) _ named.image).0)
      (and_from (image_sizes_fit (shape_in now) now) _ (ap (λ v. image_sizes_fit v now) shape ∙ sizes_now)
      (ap (λ v. blocks_fit v now (block_count v)) shape
      ∙ (blocks_each s now (block_count s)).1 (λ j h.
      ⊎_elim
      (λ same. ap (λ x. block_fits x s.pages) (ap (block_record s now) same ∙ record_now) ∙ fit (fits i there))
      (λ ne. ap (λ x. block_fits x s.pages) (record_other j ne) ∙ fits j h)
      (cases_eq j i)))) in
      sym (cond-true (is_image now) (shape_in now) no_shape still ∙ shape)
