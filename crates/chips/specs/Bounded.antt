-- The flash that a bare chip shows, and that it keeps within the bounds of a flash: the trait asks for that as a member, so its proof
-- stands here and not in proofs/.
use Rattle.std.specs.Prelude.{◌≡◌, ℕ, ◌+◌, ◌*◌, ◌<◌, ◌≤◌, true, cond, ◌&&◌, All, List, [], length}
use Rattle.std.proofs.Common.{◌∙◌, ap, arith}
use Rattle.std.proofs.lemmas.List.{length-take, length-drop}
use Rattle.std.proofs.lemmas.List.Folds.{list_all_at}
use Rattle.std.proofs.lemmas.List.FromFn.{length-map-range_with_len, get_or-map-range_with_len}
use Rattle.std.proofs.lemmas.Nat.{mul-add-lt}
use Rattle.std.proofs.lemmas.Bool.{and_parts, cond_both, eqb-true}
use Rattle.std.proofs.lemmas.Bool.Decides.{nat_tests}
use Rattle.flash.specs.Memory.{Bounds, Memory, SoundBlock, no_banks, no_banks_bounds}
use Rattle.chips.specs.Layout.{Parts, Whole, all_fit, block_at, block_count, bytes_fit, counts_fit, laid_out, lives_fit, no_record, page_at, record_at, records_fit, shape_fits, sizes_fit}
use Rattle.chips.specs.Numbered.{shaped_bounds}
use Rattle.chips.specs.Shapes.{Ranges, ranged_shape, ranges_of}
use Rattle.chips.specs.declared.bare.BareChip.{BareChip}
use Rattle.chips.specs.declared.record.BlockRecord.{BlockRecord}
pub use Rattle.chips.specs.Numbered.{number_below}

-- a chip's parts as they are now: they are what a clause sees of it
abbrev pub parts_of : BareChip → Parts
parts_of chip = chip

-- the flash that a chip shows: that of its parts, by what holds of the parts of every chip. Other parts are no chip's, and stand here for
-- a flash without banks, so that what any parts show keeps within the bounds
abbrev pub memory_of : BareChip → Memory
memory_of chip = cond (all_fit (parts_of chip)) (laid_out (parts_of chip)) no_banks

-- ---- what the tests of the sizes tell
pub record Sizes (c : Parts) : Type 0 where
  pub ranges : Ranges c.shape
  pub records : length c.records ≡ block_count c.shape
  pub bytes : length c.bytes ≡ block_count c.shape * c.shape.pages * 2048

pub sizes_of : (c : Parts) → sizes_fit c ≡ true → Sizes c
sizes_of c e =
    let all = and_parts (shape_fits c.shape) (records_fit c && bytes_fit c) e in
    let held = and_parts (records_fit c) (bytes_fit c) all.1 in
    record { ranges = ranges_of c.shape all.0; records = eqb-true _ _ held.0; bytes = eqb-true _ _ held.1 }

-- ---- the bounds
-- a page of one of `count` blocks lies within the bytes
pub page_fits : (i p count depth room : ℕ) → i < count → p < depth → count * depth * 2048 ≤ room → (i * depth + p) * 2048 + 2048 ≤ room
page_fits i p count depth room h l r = omega (arith, mul-add-lt i depth p count h l)

page_long : (bytes : List ℕ) (j : ℕ) → j * 2048 + 2048 ≤ length bytes → length (page_at bytes j) ≡ 2048
page_long bytes j h = simp (length-take, length-drop) (omega arith)

module _ (c : Parts) (whole : Whole c) where
  block_sound : (i : ℕ) → i < block_count c.shape → SoundBlock c.shape.pages (block_at c i)
  block_sound i h =
      let r = record_at c.records i in
      let f : ℕ → List ℕ = λ p. page_at c.bytes (i * c.shape.pages + p) in
      let e = length-map-range_with_len f 0 r.standing in
      let most = whole.counts i h in
      record {
        standing = omega (arith, e, most);
        long = λ p l. let u : p < r.standing = omega (arith, e) in
            ap length (get_or-map-range_with_len f 0 r.standing p p [] u (omega arith))
            ∙ page_long c.bytes (i * c.shape.pages + p)
            (page_fits i p (block_count c.shape) c.shape.pages (length c.bytes) h (omega (arith, most)) whole.bytes);
        lives = whole.lives i h;
      }

  laid_out_bounds : Bounds (laid_out c)
  laid_out_bounds = shaped_bounds c.shape (block_at c) whole.shape block_sound

-- ---- the parts that fit
-- each record of those that fit counts at most the pages of a block
counts_each : (depth : ℕ) (records : List BlockRecord) → counts_fit depth records ≡ true → (i : ℕ) → i < length records → (record_at records i).standing ≤ depth
counts_each depth records e i h = grind (arith, nat_tests, list_all_at)

-- and each has lives that a `u16` holds
lives_each : (records : List BlockRecord) → lives_fit records ≡ true → All (λ r. r.lives < 65536) records
lives_each records e i d h = grind (arith, nat_tests, list_all_at)

-- parts that fit are those of a chip
pub whole_of : (c : Parts) → sizes_fit c ≡ true → counts_fit c.shape.pages c.records ≡ true → All (λ r. r.lives < 65536) c.records → Whole c
whole_of c e n small =
    let sizes = sizes_of c e in
    record {
      shape = ranged_shape sizes.ranges;
      bytes = omega (arith, sizes.bytes);
      records = omega (arith, sizes.records);
      counts = λ i h. counts_each c.shape.pages c.records n i (omega (arith, sizes.records));
      lives = λ i h. small i no_record (omega (arith, sizes.records));
      sizes = λ _. e;
    }

whole_if_fit : (c : Parts) → all_fit c ≡ true → Whole c
whole_if_fit c e =
    let sizes = and_parts (sizes_fit c) (counts_fit c.shape.pages c.records && lives_fit c.records) e in
    let records = and_parts (counts_fit c.shape.pages c.records) (lives_fit c.records) sizes.1 in
    whole_of c sizes.0 records.0 (lives_each c.records records.1)

pub bounds_of : (chip : BareChip) → Bounds (memory_of chip)
bounds_of chip = cond_both (all_fit chip) (laid_out chip) no_banks Bounds (λ e. laid_out_bounds chip (whole_if_fit chip e)) (λ _. no_banks_bounds)
