-- What the calls of a whitened flash see and change.
use Rattle.std.proofs.Common.{◌≡◌, ℕ, ◌+◌, ◌*◌, ◌%◌, ◌<◌, List, [], length, get_or, take, drop, refl, sym, ap, ◌∙◌, arith}
use lib.Bits.{bit_xor, xor_assoc, xor_self, xor_zero_r}
use Rattle.std.proofs.lemmas.Bool.Decides.{nat_tests}
use Rattle.flash.specs.Calls.{filled, programmed, quarter_of, read_number, spot, with_block}
use Rattle.flash.specs.Memory.{Block, Memory}
use Rattle.flash.proofs.Calls.{same_memory}
use Rattle.flash.specs.Maps.{mask, whitened_byte}
use Rattle.layers.specs.Whitened.{get_or-indexed, indexed, length-indexed, whitened, whitened_block, whitened_page, whitened_run}
use Rattle.layers.proofs.Indexed.{indexed_drop, indexed_push, indexed_same, indexed_take, indexed_twice}

-- a block has as many standing pages, and a page as many bytes, as below: what a call answers goes by these
pub ruleset same_counts = (length-indexed)

-- whitening twice gives the bytes back
page_twice : (b k p : ℕ) (xs : List ℕ) → whitened_page b k p (whitened_page b k p xs) ≡ xs
page_twice b k p xs = indexed_twice (whitened_byte b k p) 0 xs (λ n x. grind (arith, xor_assoc, xor_self, xor_zero_r))

-- bytes of a page from the position j on, by the mask of the first of them
run_is : (b k p j x : ℕ) (xs : List ℕ) → x ≡ mask b k p j → whitened_run x xs ≡ indexed (whitened_byte b k p) j xs
run_is b k p j x xs is = indexed_same (λ n y. bit_xor y ((x + n) % 256)) (whitened_byte b k p) 0 j xs (λ n l y _ e. ap (bit_xor y) (omega (arith, is)))

whitened_quarter : (b k p q : ℕ) (page : List ℕ) → quarter_of (whitened_page b k p page) q ≡ indexed (whitened_byte b k p) (q * 512) (quarter_of page q)
whitened_quarter b k p q page =
    ap (take 512) (indexed_drop (whitened_byte b k p) 0 (q * 512) (q * 512) page (omega arith)) ∙ indexed_take (whitened_byte b k p) (q * 512) 512 (drop (q * 512) page)

quarter_run : (b k p q x : ℕ) (page : List ℕ) → x ≡ mask b k p 0 → whitened_run x (quarter_of page q) ≡ quarter_of (whitened_page b k p page) q
quarter_run b k p q x page is = run_is b k p (q * 512) x (quarter_of page q) (omega (arith, is)) ∙ sym (whitened_quarter b k p q page)

-- a change of a block below is a change of that block alone
pub whitened_with : (m : Memory) (b k : ℕ) (v : Block) → whitened (with_block m b k v) ≡ with_block (whitened m) b k (whitened_block b k v)
whitened_with m b k v =
    same_memory (whitened (with_block m b k v)) (with_block (whitened m) b k (whitened_block b k v)) refl refl refl (λ c l. grind (arith, nat_tests))

module _ (m : Memory) (b k p x : ℕ) (is : x ≡ mask b k p 0) where
  -- the buffer after a read that is not refused, where the read below left `stored` in it
  pub whitened_filled : (q : ℕ) (buffer stored : List ℕ) → 0 ≡ read_number (spot m b k) p q buffer → stored ≡ filled (spot m b k) p q buffer
      → whitened_run x stored ≡ filled (spot (whitened m) b k) p q buffer
  whitened_filled q buffer stored done left =
      let pages = (m.at b k).pages in
      let page = get_or pages p [] in
      let stands : p < length pages = grind (arith, nat_tests) in
      let shown : get_or ((whitened m).at b k).pages p [] ≡ whitened_page b k p page = get_or-indexed (whitened_page b k) 0 pages p p [] [] stands (omega arith) in
      let part : whitened_run x (quarter_of page q) ≡ quarter_of (whitened_page b k p page) q = quarter_run b k p q x page is in
      grind (arith, nat_tests, length-indexed)

  -- the flash after a program, where the whitened bytes went below
  pub whitened_programmed : (m' : Memory) (bytes stored : List ℕ) → stored ≡ whitened_run x bytes → m' ≡ programmed m b k p stored → whitened m' ≡ programmed (whitened m) b k p bytes
  whitened_programmed m' bytes stored run after =
      let pages = (m.at b k).pages in
      let back : whitened_page b k p stored ≡ bytes = ap (whitened_page b k p) (run ∙ run_is b k p 0 x bytes is) ∙ page_twice b k p bytes in
      let pushed = λ (next : p ≡ length pages). indexed_push (whitened_page b k) 0 p pages stored (omega arith) in
      let long : length stored ≡ length bytes = ap length run ∙ length-indexed (λ n y. bit_xor y ((x + n) % 256)) 0 bytes in
      grind (arith, nat_tests, length-indexed)
