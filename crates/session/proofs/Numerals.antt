-- The digits of a word, read one by one.
use Rattle.std.proofs.Common.{◌≡◌, ℕ, ◌+◌, ◌-◌, ◌*◌, ◌%◌, ◌^◌, ◌<◌, min, true, List, [], ◌∷◌, length, fold, Some, refl, rules, arith}
use Rattle.std.proofs.lemmas.Str.Parse.{IsDigitsTest, IsNumeralModel, numerals_by_fold}
use Rattle.std.specs.Char.{is_ascii_digit}
use Rattle.std.specs.List.{list_all}
use Rattle.session.specs.Numbers.{numeral, value}

pub some_is : (word : List ℕ) → 0 < length word → numeral word ≡ list_all is_ascii_digit word
some_is [] h = absurd (omega arith)
some_is (d ∷ ds) h = refl

all_digits : (word : List ℕ) → numeral word ≡ true → list_all is_ascii_digit word ≡ true
all_digits [] e = refl
all_digits (d ∷ ds) e = e

-- the number that digits write in decimal, where those before them write n
abbrev decimal_after : ℕ → List ℕ → ℕ
decimal_after n [] = n
decimal_after n (d ∷ ds) = decimal_after (n * 10 + (d - 48)) ds

-- digits are what std takes for digits, and that number is theirs
tells : IsDigitsTest (λ ds. list_all is_ascii_digit ds ≡ true)
tells = search rules

own : IsNumeralModel (λ ds. list_all is_ascii_digit ds ≡ true) (decimal_after 0)
own = numerals_by_fold _ tells decimal_after (search rules)

-- a number with one digit more, at most the largest usize
abbrev pub digit_more : ℕ → ℕ → ℕ
digit_more n d = min (min (n * 10) (2 ^ 64 - 1) + (d + (2 ^ 8 - 48)) % 2 ^ 8) (2 ^ 64 - 1)

-- what is over the largest before more digits are read makes no difference after
capped : (m n : ℕ) (ds : List ℕ) → list_all is_ascii_digit ds ≡ true → m ≡ min n (2 ^ 64 - 1) → fold digit_more m ds ≡ min (decimal_after n ds) (2 ^ 64 - 1)
capped m n [] h e = e
capped m n (d ∷ ds) h e = let p = tells.parts d ds h in capped (digit_more m d) (n * 10 + (d - 48)) ds p.1 (omega (arith, e, p.0))

-- the value of a word of digits
pub read : (word : List ℕ) (n : ℕ) → numeral word ≡ true → n ≡ fold digit_more 0 word → Some n ≡ value word
read word n e is = let all = all_digits word e in rw (e, is, capped 0 0 word all refl, own.same word (own.to word all)) refl
