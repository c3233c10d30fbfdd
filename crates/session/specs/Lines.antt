-- The words of a line.
use Rattle.std.specs.Prelude.{ℕ, Bool, ◌&&◌, ◌||◌, List, length, filter, ◌==◌, nat_le, nat_lt}
use Rattle.std.specs.List.{slice_split}
use Rattle.session.specs.declared.words.Words.{Words}

-- ASCII white space: the bytes 9 to 13, and 32
abbrev pub white : ℕ → Bool
white b = (nat_le 9 b && nat_le b 13) || b == 32

-- the words of a line: the parts between its white space that are not empty
abbrev pub words : List ℕ → List (List ℕ)
words line = filter (λ word. nat_lt 0 (length word)) (slice_split white line)

-- the words that are still to be taken from a line
abbrev pub words_left : Words → List (List ℕ)
words_left s = words s.rest.now
