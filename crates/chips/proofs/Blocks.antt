-- What a bare chip shows of one block, and of all blocks after one has changed.
use Rattle.std.proofs.Common.{◌≡◌, ℕ, ◌+◌, ◌*◌, ◌<◌, ◌≤◌, Bool, true, ◌&&◌, ◌≢◌, suc, List, [], ◌∷◌, length, set, None, Some, cond, subst, refl, sym, ap, ◌∙◌, ⊎_elim, arith}
use Rattle.std.specs.List.{list_all}
use Rattle.std.specs.Prelude.{nat_le, nat_lt}
use Rattle.std.proofs.lemmas.List.{get_or-set_other, get_or-set_same, length-set}
use Rattle.std.proofs.lemmas.Grind.{get_or-set_at}
use Rattle.std.proofs.lemmas.List.FromFn.{length-map-range_with_len}
use Rattle.std.proofs.lemmas.Bool.{and_from, and_parts, cases_eq, cases_lt, cond_both, cond-true, le-leb, lt-ltb, ltb-true}
use Rattle.std.proofs.lemmas.Bool.Decides.{nat_tests}
use Rattle.std.proofs.lemmas.Nat.{mul-le}
use Rattle.flash.specs.Calls.{Spot, lives_at, spot, standing_at, with_block}
use Rattle.flash.specs.Memory.{in_shape, no_banks}
use Rattle.flash.specs.declared.Shape.{Shape}
use Rattle.flash.proofs.Calls.{same_memory}
use Rattle.chips.specs.Bounded.{memory_of, sizes_of}
use Rattle.chips.specs.Checks.{Shows}
use Rattle.chips.specs.Layout.{Found, Parts, Whole, all_fit, block_at, block_count, block_of, counts_fit, laid_out, lives_fit, made_of, no_record, page_at, pages_at, record_at, sizes_fit}
use Rattle.chips.specs.Numbered.{number_below}
use Rattle.chips.specs.Shapes.{FlashShape}
use Rattle.chips.specs.declared.record.BlockRecord.{BlockRecord}
use Rattle.chips.proofs.Numbered.{numbered_changed, numbered_spot}

-- a shape without banks shows none, whatever else the parts are
without_banks : (c : Parts) → FlashShape c.shape → c.shape.banks ≡ 0 → laid_out c ≡ no_banks
without_banks c shape e =
    let none = shape.none e in
    same_memory (laid_out c) no_banks e none.0 none.1 (λ b k. grind (arith, nat_tests))

-- a test that each record passes
all_records : (p : BlockRecord → Bool) (records : List BlockRecord) → ((i : ℕ) → i < length records → p (record_at records i) ≡ true) → list_all p records ≡ true
all_records p [] each = refl
all_records p (r ∷ rs) each = and_from (p r) (list_all p rs) (each 0 (omega arith)) (all_records p rs (λ i h. each (suc i) (omega arith)))

-- the parts of a chip with banks fit
with_banks : (c : Parts) → Whole c → 0 < c.shape.banks → all_fit c ≡ true
with_banks c whole some =
    let fit = whole.sizes some in
    let sizes = sizes_of c fit in
    and_from (sizes_fit c) (counts_fit c.shape.pages c.records && lives_fit c.records) fit
    (and_from (counts_fit c.shape.pages c.records) (lives_fit c.records)
    (all_records (λ r. nat_le r.standing c.shape.pages) c.records (λ i h. le-leb _ _ (whole.counts i (omega (arith, sizes.records)))))
    (all_records (λ r. nat_lt r.lives 65536) c.records (λ i h. lt-ltb _ _ (whole.lives i (omega (arith, sizes.records))))))

-- so a chip shows the flash of its parts
pub memory_is : {c : Parts} → Whole c → memory_of c ≡ laid_out c
memory_is {c} whole =
    ⊎_elim (λ some. cond-true (all_fit c) (laid_out c) no_banks (with_banks c whole some))
    (λ none. cond_both (all_fit c) (laid_out c) no_banks (λ m. m ≡ laid_out c) (λ _. refl) (λ _. sym (without_banks c whole.shape (omega arith))))
    (cases_lt 0 c.shape.banks)

-- the flash that a chip shows, by the fields that a call sees
pub shown : {c chip : Parts} → Whole c → c ≡ chip → memory_of chip ≡ laid_out c
shown whole same = sym (ap memory_of same) ∙ memory_is whole

-- a block that the shape contains
pub found_at : (s : Shape) (b k : ℕ) → FlashShape s → in_shape s b k ≡ true → Found s b k (b * s.blocks + k)
found_at s b k shape e =
    let p = and_parts (nat_lt b s.banks) (nat_lt k s.blocks) e in
    let bank = ltb-true b s.banks p.0 in
    let block = ltb-true k s.blocks p.1 in
    record {
      bank = bank;
      block = block;
      number = refl;
      counted = number_below b k s.banks s.blocks bank block;
      few = omega (arith, mul-le s.banks s.blocks 16 64 shape.few_banks shape.few_blocks);
    }

-- a call sees the fields c of the chip, and asks the chip itself for the number of the block
module _ {c chip : Parts} {b k i : ℕ} (same : c ≡ chip) (whole : Whole c) (found : Found chip.shape b k i) where
  pub found_here : Found c.shape b k i
  found_here = subst (λ p. Found p.shape b k i) (sym same) found

  -- the block, as the chip shows it
  abbrev pub seen : Spot
  seen = record { here = true; depth = c.shape.pages; block = block_at c i }

  pub found_spot : spot (memory_of chip) b k ≡ seen
  found_spot = ap (λ m. spot m b k) (shown whole same) ∙ numbered_spot c.shape (block_at c) b k i found_here.bank found_here.block found_here.number

  -- what the checks of a call ask of the block
  pub found_shows : {n : ℕ} → n ≡ (record_at c.records i).standing → Shows (spot (memory_of chip) b k) c.shape.pages n
  found_shows count =
      record {
        here = ap (λ s. s.here) found_spot;
        depth = ap (λ s. s.depth) found_spot;
        stands = ap (λ s. length s.block.pages) found_spot
            ∙ (length-map-range_with_len (λ p. page_at c.bytes (i * c.shape.pages + p)) 0 (record_at c.records i).standing ∙ sym count);
      }

  -- what the calls answer of the block
  pub found_standing : {n : ℕ} → n ≡ (record_at c.records i).standing → standing_at (spot (memory_of chip) b k) ≡ Some n
  found_standing count = let shows = found_shows count in (λ t. cond (shows.here t) (Some (shows.stands t)) None)

  pub found_lives : lives_at (spot (memory_of chip) b k) ≡ Some (record_at c.records i).lives
  found_lives = ap lives_at found_spot

  -- a chip with another record for the block, and bytes that leave the pages of the other blocks
  module _ (bytes : List ℕ) (r : BlockRecord) (long : length bytes ≡ length c.bytes) (few : r.standing ≤ c.shape.pages) (small : r.lives < 65536)
      (apart : (j n : ℕ) → n ≤ c.shape.pages → j ≢ i → pages_at (made_of c.shape bytes c.records) j n ≡ pages_at c j n) where
    abbrev changed : Parts
    changed = made_of c.shape bytes (set c.records i r)

    at_same : block_at changed i ≡ block_of changed i r
    at_same = ap (block_of changed i) (get_or-set_same c.records i r no_record (omega (arith, found_here.counted, whole.records)))

    at_other : (j : ℕ) → j < block_count c.shape → j ≢ i → block_at changed j ≡ block_at c j
    at_other j h other =
        ap (block_of changed j) (get_or-set_other c.records i j r no_record other)
        ∙ ap (λ ps. record { pages = ps; lives = (record_at c.records j).lives })
        (apart j (record_at c.records j).standing (whole.counts j h) other)

    laid_out_changed : laid_out changed ≡ with_block (laid_out c) b k (block_of changed i r)
    laid_out_changed =
        numbered_changed c.shape (block_at c) b k i found_here.bank found_here.block found_here.number (block_at changed) at_other
        ∙ ap (with_block (laid_out c) b k) at_same

    -- what holds of each record, and of the new one, holds of each of the records after
    each_changed : (P : BlockRecord → Type 0) → P r → ((j : ℕ) → j < block_count c.shape → P (record_at c.records j))
        → (j : ℕ) → j < block_count c.shape → P (record_at (set c.records i r) j)
    each_changed P new old j h =
        ⊎_elim (λ e. subst P (sym (get_or-set_at c.records i j r no_record e (omega (arith, found_here.counted, whole.records)))) new)
        (λ other. subst P (sym (get_or-set_other c.records i j r no_record other)) (old j h)) (cases_eq j i)

    -- it is one that a chip can have
    whole_changed : Whole changed
    whole_changed =
        record {
          shape = whole.shape;
          bytes = omega (arith, long, whole.bytes);
          records = omega (arith, length-set c.records i r, whole.records);
          counts = each_changed (λ x. x.standing ≤ c.shape.pages) few whole.counts;
          lives = each_changed (λ x. x.lives < 65536) small whole.lives;
          sizes = λ some. grind (arith, long, length-set, whole.sizes some);
        }

    pub memory_changed : memory_of changed ≡ with_block (memory_of chip) b k (block_of changed i r)
    memory_changed = memory_is whole_changed ∙ (laid_out_changed ∙ ap (λ m. with_block m b k (block_of changed i r)) (sym (shown whole same)))
