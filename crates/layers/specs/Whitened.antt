-- What a flash holds whose pages are stored whitened.
use Rattle.std.specs.Prelude.{◌≡◌, ℕ, zero, suc, ◌+◌, ◌%◌, ◌<◌, List, [], ◌∷◌, length, bit_xor, slice_index_or, refl}
use Rattle.std.proofs.Common.{ap, arith}
use Rattle.flash.specs.Maps.{whitened_byte}
use Rattle.flash.specs.Memory.{Block, Bounds, Memory, SoundBlock}

-- f of each element's index and the element, the first having the index n; the library's way to say it is a map over pairs, and has no laws of parts
abbrev pub indexed : {X Y : Type 0} → (ℕ → X → Y) → ℕ → List X → List Y
indexed f n [] = []
indexed f n (x ∷ xs) = f n x ∷ indexed f (suc n) xs

-- a page, each byte by its position
abbrev pub whitened_page : ℕ → ℕ → ℕ → List ℕ → List ℕ
whitened_page bank block page = indexed (whitened_byte bank block page) 0

-- bytes that follow one another in a page, where the mask of the first is known: it rises by one with each
abbrev pub whitened_run : ℕ → List ℕ → List ℕ
whitened_run first = indexed (λ n x. bit_xor x ((first + n) % 256)) 0

-- a block, each standing page by its number: a page that does not stand has no bytes to whiten
abbrev pub whitened_block : ℕ → ℕ → Block → Block
whitened_block bank block v = record { pages = indexed (whitened_page bank block) 0 v.pages; lives = v.lives }

-- the flash that is shown where m holds the whitened pages: whitening a byte twice gives the byte, so it is the same both ways
abbrev pub whitened : Memory → Memory
whitened m = record { banks = m.banks; blocks = m.blocks; depth = m.depth; at = λ b k. whitened_block b k (m.at b k) }

-- ---- the bounds, which the trait asks as a member
pub length-indexed : {X Y : Type 0} (f : ℕ → X → Y) (n : ℕ) (xs : List X) → length (indexed f n xs) ≡ length xs
length-indexed f n [] = refl
length-indexed f n (x ∷ xs) = ap suc (length-indexed f (suc n) xs)

pub get_or-indexed : {X Y : Type 0} (f : ℕ → X → Y) (n : ℕ) (xs : List X) (i m : ℕ) (x : X) (y : Y) → i < length xs → m ≡ n + i → slice_index_or (indexed f n xs) i y ≡ f m (slice_index_or xs i x)
get_or-indexed f n [] i m x y h is = absurd (omega arith)
get_or-indexed f n (z ∷ xs) zero m x y h is = ap (λ j. f j z) (omega arith)
get_or-indexed f n (z ∷ xs) (suc i) m x y h is = get_or-indexed f (suc n) xs i m x y (omega arith) (omega arith)

whitened_sound : (b k depth : ℕ) (v : Block) → SoundBlock depth v → SoundBlock depth (whitened_block b k v)
whitened_sound b k depth v s = record {
  standing = grind (arith, length-indexed);
  long = λ p h.
      let l : p < length v.pages = grind (arith, length-indexed) in
      rw (get_or-indexed (whitened_page b k) 0 v.pages p p [] [] l (omega arith), length-indexed) (s.long p l);
  lives = s.lives;
}

pub whitened_bounds : (m : Memory) → Bounds m → Bounds (whitened m)
whitened_bounds m bm = record {
  banks = bm.banks;
  blocks = bm.blocks;
  depth = bm.depth;
  some = bm.some;
  none = bm.none;
  each = λ b k. whitened_sound b k m.depth (m.at b k) (bm.each b k);
  outside = λ b k e. ap (whitened_block b k) (bm.outside b k e);
}
