-- What the calls answer of a block that the image shows, and what they make of the image.
use Rattle.std.proofs.Common.{◌≡◌, ℕ, ◌+◌, ◌-◌, ◌*◌, ◌<◌, true, List, [], ◌++◌, length, get_or, take, drop, replicate, None, Some, sym, refl, ap, ◌∙◌, arith}
use Rattle.std.proofs.lemmas.Bool.{cond_both}
use Rattle.std.proofs.lemmas.List.FromFn.{get_or-map-range_with_len, length-map-range_with_len}
use Rattle.std.specs.declared.ops.Range.{Range}
use borrow.Rule.Slice.PartMut.{put_mid}
use Rattle.flash.specs.Calls.{Spot, changed, emptied, erase_number, erased, lives_at, program_number, programmed, quarter_of, spot, standing_at, with_block, written}
use Rattle.flash.specs.Memory.{Block, Memory}
use Rattle.flash.specs.Tables.{unless_refused}
use Rattle.flash.proofs.Calls.{erase_done, not_refused, program_done}
use Rattle.flash.specs.declared.Shape.{Shape}
use Rattle.chips.specs.Bounded.{number_below}
use Rattle.chips.specs.Checks.{Shows}
use Rattle.chips.specs.ImageBlank.{blank_block, block_head}
use Rattle.chips.specs.ImageBounded.{block_long, named_by_banks}
use Rattle.chips.specs.ImageLayout.{FoundAt, Shown, block_fits, block_in, block_record, block_size, erased_bytes, lives_in, named_shape, page_in, programmed_bytes, put, standing_in, stored, with_page, with_record}
use Rattle.chips.specs.Layout.{block_count}
use Rattle.chips.proofs.ImageChanged.{named_now, stored_now}
use Rattle.chips.proofs.ImageRecords.{block_blank, block_written, fits_blank, fits_written, length-blank, length_written}
use Rattle.chips.proofs.Numbered.{numbered_spot}
use Rattle.chips.proofs.Stretches.{put_mid_put}

-- the shape that an image keeps is the one that its bytes name
pub kept_shape : {s : Shape} {inside bytes : List ℕ} → s ≡ named_shape inside → inside ≡ bytes → s ≡ named_shape bytes
kept_shape named holds = named ∙ ap named_shape holds

-- what the answer to a question tells of the block
pub standing_some : (v : Spot) (n : ℕ) → standing_at v ≡ Some n → Shows v v.depth n
standing_some v n e =
    cond_both v.here (Some (length v.block.pages)) None (λ o. o ≡ Some n → Shows v v.depth n)
    (λ here same. record { here = here; depth = refl; stands = cc }) (λ _ same. absurd cc) e

lives_some : (v : Spot) (n : ℕ) → lives_at v ≡ Some n → (v.here ≡ true) × (v.block.lives ≡ n)
lives_some v n e = cond_both v.here (Some v.block.lives) None (λ o. o ≡ Some n → (v.here ≡ true) × (v.block.lives ≡ n)) (λ here same. (here, cc)) (λ _ same. absurd cc) e

-- the bytes are `now` after a call: their header names the shape still, they are these, and the flash that they show is m
pub record Makes (s : Shape) (now these : List ℕ) (m : Memory) : Type 0 where
  pub named : s ≡ named_shape now
  pub bytes : now ≡ these
  pub shown : stored (named_shape now) now ≡ m

module _ {s : Shape} {bytes : List ℕ} {b k : ℕ} (shown : Shown s bytes b k) where
  abbrev number : ℕ
  number = b * s.blocks + k

  -- the record of the block, and the block as the image shows it
  abbrev held : List ℕ
  held = block_record s bytes number

  abbrev seen : Spot
  seen = record { here = true; depth = s.pages; block = block_in held s.pages }

  there : number < block_count s
  there = number_below b k s.banks s.blocks shown.bank shown.block

  long_held : length held ≡ block_size s
  long_held = block_long s bytes number shown.sizes there

  shown_spot : spot (stored s bytes) b k ≡ seen
  shown_spot = numbered_spot s (λ i. block_in (block_record s bytes i) s.pages) b k number shown.bank shown.block refl

  shown_count : length (spot (stored s bytes) b k).block.pages ≡ standing_in held s.pages
  shown_count = ap (λ v. length v.block.pages) shown_spot ∙ length-map-range_with_len (page_in held) 0 (standing_in held s.pages)

  -- what a view of the record tells, which counts n pages
  module _ (r : List ℕ) (same : r ≡ held) (n : ℕ) (count : n ≡ standing_in r s.pages) where
    counted : n ≡ standing_in held s.pages
    counted = count ∙ ap (λ x. standing_in x s.pages) same

    pub shown_shows : (depth : ℕ) → depth ≡ s.pages → Shows (spot (stored s bytes) b k) depth n
    shown_shows depth e = record { here = ap (λ v. v.here) shown_spot; depth = ap (λ v. v.depth) shown_spot ∙ sym e; stands = shown_count ∙ sym counted }

    pub shown_standing : standing_at (spot (stored s bytes) b k) ≡ Some n
    shown_standing = ap standing_at shown_spot ∙ ap Some (length-map-range_with_len (page_in held) 0 (standing_in held s.pages) ∙ sym counted)

    pub shown_quarter : (p q : ℕ) → p < n → quarter_of (page_in r p) q ≡ quarter_of (get_or (spot (stored s bytes) b k).block.pages p []) q
    shown_quarter p q h =
        ap (λ x. quarter_of (page_in x p) q) same
        ∙ sym (ap (λ v. quarter_of (get_or v.block.pages p []) q) shown_spot
        ∙ ap (λ x. quarter_of x q) (get_or-map-range_with_len (page_in held) 0 (standing_in held s.pages) p p [] (omega (arith, counted)) (omega arith)))

  -- another record in its place, of the block v, where the call's number is n
  module _ (named : s ≡ named_shape bytes) (r : List ℕ) (long : length r ≡ block_size s) (fits : block_fits held s.pages ≡ true → block_fits r s.pages ≡ true) where
    makes : (n : ℕ) → n ≡ 0 → (v : Block) → block_in r s.pages ≡ v → (now : List ℕ) → now ≡ with_record s bytes number r
        → Makes s now (unless_refused n (with_record s bytes number r) bytes) (changed (stored s bytes) b k n v)
    makes n done v is now e =
        let still = named_now s bytes r number shown.sizes there long (named_by_banks s bytes named (omega (arith, shown.bank))) fits ∙ sym (ap named_shape e) in
        record {
          named = still;
          bytes = e ∙ sym (not_refused _ _ _ done);
          shown = (λ t. stored (sym still t) (e t))
              ∙ (stored_now s bytes r number shown.sizes there long b k shown.bank shown.block refl ∙ (ap (with_block (stored s bytes) b k) is ∙ sym (not_refused _ _ _ done)));
        }

-- the calls that write, where the record lies at this place, in the bytes that the image holds
module _ {s : Shape} {bytes : List ℕ} {b k : ℕ} {place : Range ℕ} (found : FoundAt s bytes b k place) (named : s ≡ named_shape bytes) {inside : List ℕ} (holds : inside ≡ bytes) where
  abbrev old : List ℕ
  old = take (place.end - place.start) (drop place.start inside)

  abbrev after : List ℕ → List ℕ
  after new = put_mid place.start (place.end - place.start) inside new

  size_found : place.end - place.start ≡ block_size s
  size_found = omega (arith, found.end)

  old_held : old ≡ held found.shown
  old_held = λ t. take (size_found t) (drop (found.start t) (holds t))

  long_old : length old ≡ 4 + 2050 * s.pages
  long_old = ap length old_held ∙ long_held found.shown

  after_is : (new r : List ℕ) → new ≡ r → length r ≡ block_size s → after new ≡ with_record s bytes (b * s.blocks + k) r
  after_is new r e long =
      put_mid_put place.start (place.end - place.start) inside new (size_found ∙ (sym long ∙ ap length (sym e))) ∙ (λ t. put (found.start t) (e t) (holds t))

  pub program_makes : (p n : ℕ) (page new : List ℕ) → standing_at (spot (stored s bytes) b k) ≡ Some n → (p < s.pages) × ((p ≡ n) × (length page ≡ 2048)) → new ≡ with_page old p page
      → Makes s (after new) (programmed_bytes s bytes b k p page) (programmed (stored s bytes) b k p page)
  program_makes p n page new some (low, (is, long)) e =
      let shows = standing_some (spot (stored s bytes) b k) n some in
      let r = held found.shown in
      let next = sym (is ∙ (sym shows.stands ∙ shown_count found.shown)) in
      let size = length_written r page s.pages p (long_held found.shown) low long next ∙ long_held found.shown in
      makes found.shown named (with_page r p page) size (fits_written r page s.pages p (long_held found.shown) low long next)
      (program_number (spot (stored s bytes) b k) p page) (program_done (spot (stored s bytes) b k) p page shows.here low long (is ∙ sym shows.stands))
      (written ((stored s bytes).at b k) page) (block_written r page s.pages p (long_held found.shown) low long next ∙ sym (ap (λ v. written v.block page) (shown_spot found.shown)))
      (after new) (after_is new (with_page r p page) (e ∙ ap (λ x. with_page x p page) old_held) size)

  pub erase_makes : (n left : ℕ) (new : List ℕ) → lives_at (spot (stored s bytes) b k) ≡ Some n → n ≡ left + 1
      → ((m : ℕ) → length old ≡ 4 + m → new ≡ block_head left ++ replicate m 0xFF)
      → Makes s (after new) (erased_bytes s bytes b k) (erased (stored s bytes) b k)
  erase_makes n left new some passed e =
      let lives = lives_in (held found.shown) in
      let (here, has) = lives_some (spot (stored s bytes) b k) n some in
      let is : n ≡ lives = sym has ∙ ap (λ v. v.block.lives) (shown_spot found.shown) in
      let less : left ≡ lives - 1 = omega arith in
      makes found.shown named (blank_block s (lives - 1)) (length-blank s (lives - 1)) (λ _. fits_blank s (lives - 1))
      (erase_number (spot (stored s bytes) b k)) (erase_done (spot (stored s bytes) b k) here (omega arith))
      (emptied ((stored s bytes).at b k)) (block_blank s (lives - 1) (omega arith) ∙ sym (ap (λ v. emptied v.block) (shown_spot found.shown)))
      (after new) (after_is new (blank_block s (lives - 1)) (e (2050 * s.pages) long_old ∙ ap (blank_block s) less) (length-blank s (lives - 1)))
