-- The steps of the loop that reads so many numbers.
use Rattle.std.proofs.Common.{◌≡◌, ℕ, suc, ◌+◌, ◌-◌, ◌<◌, List, [], ◌∷◌, ◌++◌, length, take, Some, None, Option, refl, sym, ap, append_assoc, arith}
use Rattle.std.proofs.Math.ListN.{set}
use Rattle.std.proofs.lemmas.Grind.{take-set_at}
use Rattle.std.specs.Option.{option_map}
use Rattle.session.specs.Commands.{numbers}
use Rattle.session.specs.Numbers.{value}

-- the numbers of a line, where some are found and n words more have to come
abbrev pub with_more : List ℕ → ℕ → List (List ℕ) → Option (List ℕ)
with_more found n ws = option_map (λ ms. found ++ ms) (numbers n ws)

pushed : (found : List ℕ) (m : ℕ) (o : Option (List ℕ)) → option_map (λ ms. (found ++ m ∷ []) ++ ms) o ≡ option_map (λ ms. found ++ ms) (option_map (λ ms. m ∷ ms) o)
pushed found m None = refl
pushed found m (Some ms) = ap (λ x. Some x) (append_assoc found (m ∷ []) ms)

pub one_more : (all : List ℕ) (i n m : ℕ) (w : List ℕ) (ws left : List (List ℕ)) → i < length all → i < n → ws ≡ w ∷ left → Some m ≡ value w → with_more (take (i + 1) (set all i m)) (n - (i + 1)) left ≡ with_more (take i all) (n - i) ws
one_more all i n m w ws left inside some first e =
    let less : n - i ≡ suc (n - (i + 1)) = omega arith in
    rw (first, less, sym e, take-set_at all i (i + 1) m refl inside) (pushed (take i all) m (numbers (n - (i + 1)) left))
