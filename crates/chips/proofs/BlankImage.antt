-- A blank image: how formatting comes to write it, and that it opens as the blank flash.
use Rattle.std.proofs.Common.{◌≡◌, ℕ, zero, suc, ◌+◌, ◌-◌, ◌*◌, ◌<◌, ◌≤◌, true, cond, ◌&&◌, ltb, List, ◌++◌, length, take, drop, replicate, sym, refl, ap, ◌∙◌, ⊎_elim, add-one, arith}
use Rattle.std.proofs.lemmas.Bool.{and_from, and_parts, cases_Bool, cases_lt, cond-false, cond-true, eq-eqb, ltb-true}
use Rattle.std.proofs.lemmas.List.{append-nil, append_assoc, drop_at, drop-append-le, drop-drop, drop-replicate, length-append, length-drop, replicate-append-replicate, take_all, take_at, take-append-le}
use Rattle.std.proofs.lemmas.Nat.{mul-le}
use borrow.Rule.Slice.PartMut.{put_mid}
use Rattle.flash.specs.Memory.{no_banks, no_block}
use Rattle.flash.specs.declared.Shape.{Shape}
use Rattle.flash.proofs.Calls.{same_memory}
use Rattle.chips.specs.Bounded.{number_below}
use Rattle.chips.specs.ImageBlank.{blank_block, blank_blocks, blank_flash, blank_image, block_head, header}
use Rattle.chips.specs.ImageBounded.{block_ends}
use Rattle.chips.specs.ImageLayout.{block_in, block_size, block_start, header_mark, image_length, image_sizes_fit, is_image, opened, block_record, block_fits, stored}
use Rattle.chips.specs.Layout.{block_count, shape_fits}
use Rattle.chips.proofs.ImageChanged.{blocks_each}
use Rattle.chips.proofs.ImageRecords.{block_blank, length-blank, fits_blank}

module _ (s : Shape) (lives : ℕ) where
  length-blocks : (n : ℕ) → length (blank_blocks s lives n) ≡ n * block_size s
  length-blocks zero = omega arith
  length-blocks (suc n) = length-append (blank_blocks s lives n) (blank_block s lives) ∙ omega (arith, length-blocks n, length-blank s lives)

  -- the header and n blocks
  abbrev front : ℕ → List ℕ
  front n = header s ++ blank_blocks s lives n

  length_front : (n : ℕ) → length (front n) ≡ block_start s n
  length_front n = omega (arith, length-blocks n)

  -- how many bytes follow them
  abbrev left : ℕ → ℕ
  left n = image_length s - block_start s n

  -- ---- formatting: the header and the heads of n blocks are written, and all else is FF
  abbrev pub begun : ℕ → List ℕ
  begun n = front n ++ replicate (left n) 0xFF

  -- the header, over bytes that are all FF
  pub begun_none : (filled head : List ℕ) (n : ℕ) → filled ≡ replicate n 0xFF → n ≡ image_length s → head ≡ header s → head ++ drop 6 filled ≡ begun 0
  begun_none filled head n f e h =
      let m : n - 6 ≡ left 0 = omega arith in
      (λ t. h t ++ drop 6 (f t)) ∙ ap (λ x. header s ++ x) (drop-replicate 6 n 0xFF ∙ ap (λ x. replicate x 0xFF) m)

  -- the head of one more block
  pub begun_more : (now head : List ℕ) (n start k : ℕ) → n < block_count s → now ≡ begun n → start ≡ block_start s n → k ≡ 4 → head ≡ block_head lives
      → put_mid start k now head ≡ begun (n + 1)
  begun_more now head n start k l b e f h =
      let at = block_start s n in
      let pages = 2050 * s.pages in
      let within = block_ends s n l in
      let m : left n - 4 ≡ pages + left (n + 1) = omega arith in
      (λ t. put_mid (e t) (f t) (b t) (h t))
      ∙ ((λ t. take_at (front n) (replicate (left n) 0xFF) at (length_front n) t ++ (block_head lives ++ drop 4 (drop_at (front n) (replicate (left n) 0xFF) at (length_front n) t)))
      ∙ (ap (λ x. front n ++ (block_head lives ++ x))
      (drop-replicate 4 (left n) 0xFF ∙ (ap (λ x. replicate x 0xFF) m ∙ sym (replicate-append-replicate pages (left (n + 1)) 0xFF)))
      ∙ simp (append_assoc, add-one)))

  pub begun_all : (now : List ℕ) (n : ℕ) → n ≡ block_count s → now ≡ begun n → now ≡ blank_image s lives
  begun_all now n e b =
      let m : left (block_count s) ≡ 0 = omega arith in
      b ∙ (ap begun e ∙ (ap (λ x. blank_image s lives ++ replicate x 0xFF) m ∙ append-nil (blank_image s lives)))

  -- ---- opening
  abbrev image : List ℕ
  image = blank_image s lives

  record_blocks : (n i : ℕ) → i < n → take (block_size s) (drop (i * block_size s) (blank_blocks s lives n)) ≡ blank_block s lives
  record_blocks zero i h = absurd (omega arith)
  record_blocks (suc n) i h =
      let z = block_size s in
      let before = blank_blocks s lives n in
      let block = blank_block s lives in
      let long = length-blocks n in
      ⊎_elim
      (λ (low : i < n).
      let more : (i + 1) * z ≤ n * z = mul-le (i + 1) z n z (omega arith) (omega arith) in
      ap (take z) (drop-append-le (i * z) before block (omega arith))
      ∙ (take-append-le z (drop (i * z) before) block (simp length-drop (omega arith)) ∙ record_blocks n i low))
      (λ (last : n ≤ i).
      let e : i ≡ n = omega arith in
      ap (take z) (drop_at before block (i * z) (long ∙ ap (λ x. x * z) (sym e))) ∙ take_all z block (omega (arith, length-blank s lives)))
      (cases_lt i n)

  record_image : (i : ℕ) → i < block_count s → block_record s image i ≡ blank_block s lives
  record_image i h =
      ap (take (block_size s)) (sym (drop-drop (i * block_size s) 6 image)) ∙ record_blocks (block_count s) i h

  sizes : shape_fits s ≡ true → image_sizes_fit s image ≡ true
  sizes fits = and_from (shape_fits s) _ fits (eq-eqb (length image) (image_length s) (omega (arith, length-blocks (block_count s))))

  image_is : shape_fits s ≡ true → is_image image ≡ true
  image_is fits =
      and_from (header_mark image) _ refl
      (and_from (image_sizes_fit s image) _ (sizes fits)
      ((blocks_each s image (block_count s)).1 (λ i h. ap (λ r. block_fits r s.pages) (record_image i h) ∙ fits_blank s lives)))

  at_place : lives < 65536 → (b k : ℕ) → (stored s image).at b k ≡ (blank_flash s lives).at b k
  at_place h b k =
      let there = ltb b s.banks && ltb k s.blocks in
      ⊎_elim
      (λ e. let p = and_parts (ltb b s.banks) (ltb k s.blocks) e in
      let n = number_below b k s.banks s.blocks (ltb-true b s.banks p.0) (ltb-true k s.blocks p.1) in
      ap (λ x. cond there x no_block) (ap (λ r. block_in r s.pages) (record_image (b * s.blocks + k) n) ∙ block_blank s lives h))
      (λ e. cond-false there _ no_block e ∙ sym (cond-false there _ no_block e))
      (cases_Bool there)

  pub blank_opens : shape_fits s ≡ true → lives < 65536 → opened image ≡ blank_flash s lives
  blank_opens fits h = cond-true (is_image image) _ no_banks (image_is fits) ∙ same_memory (stored s image) (blank_flash s lives) refl refl refl (at_place h)
