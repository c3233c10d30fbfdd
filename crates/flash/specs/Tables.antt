-- Tables of refusals: the checks of a call in their order, each with whether it fails and the number that is then the answer.
use Rattle.std.specs.Prelude.{ℕ, Bool, cond, List, [], ◌∷◌, ◌==◌}

-- the number of the first check that fails, or 0 where none does
abbrev pub first : List (Bool × ℕ) → ℕ
first [] = 0
first (check ∷ checks) = cond check.0 check.1 (first checks)

-- what comes of a call that answers the number n: `new` where it is accepted, and where it is refused, `old`
abbrev pub unless_refused : {A : Type 0} → ℕ → A → A → A
unless_refused n new old = cond (n == 0) new old
