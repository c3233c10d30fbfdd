-- What the calls answer of a block that the chip shows, and what they make of the chip.
use Rattle.std.proofs.Common.{◌≡◌, ℕ, ◌+◌, ◌-◌, ◌*◌, ◌<◌, ◌≤◌, List, [], ◌∷◌, ◌++◌, length, get_or, take, drop, set, sym, refl, ap, ◌∙◌, arith}
use Rattle.std.proofs.lemmas.List.FromFn.{get_or-map-range_with_len}
use Rattle.flash.specs.Calls.{emptied, quarter_of, spot, with_block, written}
use Rattle.chips.specs.Bounded.{memory_of, page_fits}
use Rattle.chips.specs.Layout.{Found, Parts, Whole, block_count, made_of, page_at, pages_at, record_at}
use Rattle.chips.specs.declared.record.BlockRecord.{BlockRecord}
use Rattle.chips.proofs.Blocks.{found_here, found_spot, memory_changed}
use Rattle.chips.proofs.Pages.{pages_at_other, pages_at_same, put_page, put_page_long, quarter_at}

module _ {c chip : Parts} {b k i : ℕ} (same : c ≡ chip) (whole : Whole c) (found : Found chip.shape b k i) where
  abbrev kept : BlockRecord
  kept = record_at c.records i

  -- every page of the block lies within the bytes
  pub found_page : (p : ℕ) → p < c.shape.pages → (i * c.shape.pages + p) * 2048 + 2048 ≤ length c.bytes
  found_page p low = page_fits i p (block_count c.shape) c.shape.pages (length c.bytes) (found_here same whole found).counted low whole.bytes

  -- the number of the block is that of a record
  found_record : i < block_count c.shape
  found_record = (found_here same whole found).counted

  -- ---- program
  pub memory_programmed : (p : ℕ) (page bytes : List ℕ) (r : BlockRecord) → p < c.shape.pages → length page ≡ 2048 → p ≡ kept.standing
      → bytes ≡ put_page c.bytes (i * c.shape.pages + p) page → r.standing ≡ p + 1 → r.lives ≡ kept.lives
      → memory_of (made_of c.shape bytes (set c.records i r)) ≡ with_block (memory_of chip) b k (written ((memory_of chip).at b k) page)
  memory_programmed p page bytes r low long is put more alike =
      let now = put_page c.bytes (i * c.shape.pages + p) page in
      let fits = found_page p low in
      ap (λ bs. memory_of (made_of c.shape bs (set c.records i r))) put
      ∙ (memory_changed same whole found now r (put_page_long c.bytes page (i * c.shape.pages + p) fits long) (omega (arith, more)) (omega (arith, alike, whole.lives i found_record))
      (λ j n u other. pages_at_other c page i p fits long j n low u other)
      ∙ ap (with_block (memory_of chip) b k)
      ((λ t. record { pages = pages_at (made_of c.shape now c.records) i (more t); lives = alike t })
      ∙ ((λ t. record { pages = pages_at_same c page i p fits long t; lives = kept.lives })
      ∙ ((λ t. record { pages = pages_at c i (is t) ++ page ∷ []; lives = kept.lives })
      ∙ sym (ap (λ s. written s.block page) (found_spot same whole found))))))

  -- ---- read
  pub found_quarter : (p q : ℕ) → q < 4 → p < kept.standing
      → quarter_of (get_or (spot (memory_of chip) b k).block.pages p []) q ≡ take 512 (drop ((i * c.shape.pages + p) * 2048 + q * 512) c.bytes)
  found_quarter p q part h =
      ap (λ s. quarter_of (get_or s.block.pages p []) q) (found_spot same whole found)
      ∙ (ap (λ x. quarter_of x q) (get_or-map-range_with_len (λ x. page_at c.bytes (i * c.shape.pages + x)) 0 kept.standing p p [] h (omega arith))
      ∙ quarter_at c.bytes (i * c.shape.pages + p) q part)

  -- ---- erase
  pub memory_erased : (r : BlockRecord) → r.standing ≡ 0 → r.lives ≡ kept.lives - 1
      → memory_of (made_of c.shape c.bytes (set c.records i r)) ≡ with_block (memory_of chip) b k (emptied ((memory_of chip).at b k))
  memory_erased r none fewer =
      memory_changed same whole found c.bytes r refl (omega (arith, none)) (omega (arith, fewer, whole.lives i found_record)) (λ j n u other. refl)
      ∙ ap (with_block (memory_of chip) b k) ((λ t. record { pages = pages_at c i (none t); lives = fewer t }) ∙ sym (ap (λ s. emptied s.block) (found_spot same whole found)))
