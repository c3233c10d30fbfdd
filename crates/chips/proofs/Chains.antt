-- What a chain over the pieces of a slice gives.
use Rattle.std.proofs.Common.{◌≡◌, ℕ, zero, suc, ◌+◌, ◌*◌, ◌<◌, ◌≤◌, Bool, List, [], ◌∷◌, ◌++◌, map, length, take, drop, Decides, sym, refl, ap, ◌∙◌, ⊎_elim, arith, true}
use Rattle.std.proofs.lemmas.Bool.{and_from, and_parts, cases_eq}
use Rattle.std.proofs.lemmas.Iterator.{YieldsList}
use Rattle.std.proofs.lemmas.List.{drop-drop, drop-take, drop_at, length-append, length-take, take-take, take_all, take_at}
use Rattle.std.specs.Iterator.{AlwaysYields}
use Rattle.std.specs.List.{list_all, range_with_len}
use Rattle.std.specs.Slice.Exact.{rchunks_exact_rest, rchunks_exact_size, rchunks_exact_steps}
use Rattle.std.specs.Slice.Iter.{chunks_exact_rest, chunks_exact_size, chunks_exact_steps}
use Rattle.std.specs.declared.slice.ChunksExact.{ChunksExact}
use Rattle.std.specs.declared.slice.RChunksExact.{RChunksExact}

-- ---- forward: all pieces, in order
module _ (n : ℕ) (some : 0 < n) (xs : List ℕ) where
  -- the piece k of the pieces of n elements
  abbrev pub piece : ℕ → List ℕ
  piece k = take n (drop (k * n) xs)

  -- all that an iterator gives which has the pieces from the piece a on left
  road : (c a : ℕ) (s : ChunksExact ℕ) → chunks_exact_size s ≡ n → chunks_exact_rest s ≡ drop (a * n) xs → length (chunks_exact_rest s) ≡ c * n
      → AlwaysYields chunks_exact_steps (λ y. y.now) s (map piece (range_with_len a c))
  road zero a s z e l = λ x j step. omega (arith, z, l, step.1.1, ap length step.1.0, length-append x.now (chunks_exact_rest j))
  road (suc c) a s z e l = (
    λ j step. omega (arith, z, l, step.1.0),
    λ x j step.
        let long : length x.now ≡ n = step.1.1 ∙ z in
        let front : x.now ≡ piece a = sym (take_at x.now (chunks_exact_rest j) n long) ∙ ap (take n) (sym step.1.0 ∙ e) in
        let rest : chunks_exact_rest j ≡ drop ((a + 1) * n) xs =
        sym (drop_at x.now (chunks_exact_rest j) n long) ∙ (ap (drop n) (sym step.1.0 ∙ e) ∙ (drop-drop n (a * n) xs ∙ ap (λ i. drop i xs) {x = a * n + n} {y = (a + 1) * n} (omega arith))) in
        (front, road c (a + 1) j (step.0 ∙ z) rest (omega (arith, long, l, ap length step.1.0, length-append x.now (chunks_exact_rest j)))),
  )

  pub YieldsList-from_chunks : {s : ChunksExact ℕ} (c : ℕ) → chunks_exact_size s ≡ n → chunks_exact_rest s ≡ xs → length xs ≡ c * n
      → YieldsList chunks_exact_steps (λ y. y.now) s (map piece (range_with_len 0 c))
  YieldsList-from_chunks {s} c z e l = record { runs = road c 0 s z (e ∙ ap (λ i. drop i xs) {x = 0} {y = 0 * n} (omega arith)) (ap length e ∙ l) }

  -- ---- backward: the first c pieces, from the last of them
  abbrev pub pieces_back : ℕ → List (List ℕ)
  pieces_back zero = []
  pieces_back (suc c) = piece c ∷ pieces_back c

  road_back : (c : ℕ) (s : RChunksExact ℕ) → rchunks_exact_size s ≡ n → rchunks_exact_rest s ≡ take (c * n) xs → c * n ≤ length xs
      → AlwaysYields rchunks_exact_steps (λ y. y.now) s (pieces_back c)
  road_back zero s z e l = λ x j step. omega (arith, z, ap length e, step.2.1, ap length step.2.0, length-append (rchunks_exact_rest j) x.now, length-take (0 * n) xs)
  road_back (suc c) s z e l =
      let long : length (rchunks_exact_rest s) ≡ c * n + n = omega (arith, ap length e, length-take (suc c * n) xs) in (
        λ j step. omega (arith, z, step.2.0),
        λ x j step.
            let size : length x.now ≡ n = step.2.1 ∙ z in
            let left : length (rchunks_exact_rest j) ≡ c * n = omega (arith, ap length step.2.0, length-append (rchunks_exact_rest j) x.now) in
            let whole : rchunks_exact_rest j ++ x.now ≡ take (c * n + n) xs = sym step.2.0 ∙ (e ∙ ap (λ i. take i xs) {x = suc c * n} {y = c * n + n} (omega arith)) in
            let last : x.now ≡ piece c = sym (drop_at (rchunks_exact_rest j) x.now (c * n) left) ∙ (ap (drop (c * n)) whole ∙ drop-take (c * n) n xs) in
            let rest : rchunks_exact_rest j ≡ take (c * n) xs =
            sym (take_at (rchunks_exact_rest j) x.now (c * n) left) ∙ (ap (take (c * n)) whole ∙ take-take (c * n) (c * n + n) xs (omega arith)) in
            (last, road_back c j (step.0 ∙ z) rest (omega arith)),
      )

  pub YieldsList-from_rchunks : {s : RChunksExact ℕ} (c : ℕ) → rchunks_exact_size s ≡ n → rchunks_exact_rest s ≡ xs → length xs ≡ c * n
      → YieldsList rchunks_exact_steps (λ y. y.now) s (pieces_back c)
  YieldsList-from_rchunks {s} c z e l = record { runs = road_back c s z (e ∙ sym (take_all (c * n) xs (omega arith))) (omega arith) }

-- ---- a test of all
pub list_all-map-range : {X : Type 0} (test : X → Bool) (f : ℕ → X) (c a : ℕ) → Decides (list_all test (map f (range_with_len a c))) ((k : ℕ) → a ≤ k → k < a + c → test (f k) ≡ true)
list_all-map-range test f zero a = (λ _ k l h. absurd (omega arith), λ _. refl)
list_all-map-range test f (suc c) a =
    let rest = list_all-map-range test f c (a + 1) in (
      λ e k l h.
          let both = and_parts (test (f a)) _ e in
          ⊎_elim (λ same. ap (λ i. test (f i)) same ∙ both.0) (λ other. rest.0 both.1 k (omega (arith, other)) (omega arith)) (cases_eq k a),
      λ h. and_from (test (f a)) _ (h a (omega arith) (omega arith)) (rest.1 (λ k l u. h k (omega arith) (omega arith))),
    )
