-- The numbers that words write.
use Rattle.std.specs.Prelude.{ℕ, ◌-◌, ◌^◌, min, Bool, false, cond, List, [], ◌∷◌, Some, None, Option}
use Rattle.std.specs.Char.{is_ascii_digit}
use Rattle.std.specs.List.{list_all}
use Rattle.std.specs.Str.Parse.{digits_value}

-- whether a word has one decimal digit or more and nothing else
abbrev pub numeral : List ℕ → Bool
numeral [] = false
numeral (d ∷ ds) = list_all is_ascii_digit (d ∷ ds)

-- the value of such a word, at most the largest usize
abbrev pub value : List ℕ → Option ℕ
value word = cond (numeral word) (Some (min (digits_value 10 word) (2 ^ 64 - 1))) None
