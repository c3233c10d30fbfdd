-- Lists made of the elements and their indices.
use Rattle.std.proofs.Common.{◌≡◌, ℕ, zero, suc, ◌+◌, ◌<◌, ◌≤◌, List, [], ◌∷◌, ◌++◌, length, get_or, take, drop, set, refl, ap, arith}
use Rattle.std.proofs.lemmas.Grind.{common_steps}
use Rattle.layers.specs.Whitened.{indexed}

-- two functions that agree from there on, also where one is counted from another index
pub indexed_same : {X Y : Type 0} (f g : ℕ → X → Y) (n m : ℕ) (xs : List X) → ((i j : ℕ) (x : X) → n ≤ i → i + m ≡ j + n → f i x ≡ g j x) → indexed f n xs ≡ indexed g m xs
indexed_same f g n m [] h = refl
indexed_same f g n m (x ∷ xs) h = λ t. h n m x (omega arith) (omega arith) t ∷ indexed_same f g (suc n) (suc m) xs (λ i j y l e. h i j y (omega arith) (omega arith)) t

pub indexed_take : {X Y : Type 0} (f : ℕ → X → Y) (n i : ℕ) (xs : List X) → take i (indexed f n xs) ≡ indexed f n (take i xs)
indexed_take f n zero xs = refl
indexed_take f n (suc i) [] = refl
indexed_take f n (suc i) (x ∷ xs) = ap (λ l. f n x ∷ l) (indexed_take f (suc n) i xs)

pub indexed_drop : {X Y : Type 0} (f : ℕ → X → Y) (n i m : ℕ) (xs : List X) → m ≡ n + i → drop i (indexed f n xs) ≡ indexed f m (drop i xs)
indexed_drop f n zero m xs is = ap (λ j. indexed f j xs) (omega arith)
indexed_drop f n (suc i) m [] is = refl
indexed_drop f n (suc i) m (x ∷ xs) is = indexed_drop f (suc n) i m xs (omega arith)

-- a function that gives the element back when done twice
pub indexed_twice : {X : Type 0} (f : ℕ → X → X) (n : ℕ) (xs : List X) → ((i : ℕ) (x : X) → f i (f i x) ≡ x) → indexed f n (indexed f n xs) ≡ xs
indexed_twice f n [] h = refl
indexed_twice f n (x ∷ xs) h = λ t. h n x t ∷ indexed_twice f (suc n) xs h t

pub indexed_push : {X Y : Type 0} (f : ℕ → X → Y) (n m : ℕ) (xs : List X) (x : X) → m ≡ n + length xs → indexed f n (xs ++ x ∷ []) ≡ indexed f n xs ++ f m x ∷ []
indexed_push f n m [] x is = ap (λ j. f j x ∷ []) (omega arith)
indexed_push f n m (y ∷ xs) x is = ap (λ l. f n y ∷ l) (indexed_push f (suc n) m xs x (omega arith))

-- a loop that writes f i x over each element x, which has the index i: what is done, with what is to come done from there on, stays the same
pub indexed_step : {X : Type 0} (f : ℕ → X → X) (xs : List X) (i : ℕ) (x y : X) → i < length xs → y ≡ f i (get_or xs i x)
    → take (i + 1) (set xs i y) ++ indexed f (i + 1) (drop (i + 1) (set xs i y)) ≡ take i xs ++ indexed f i (drop i xs)
indexed_step f xs i x y lt is = grind (arith, common_steps)
