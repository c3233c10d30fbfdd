-- The commands that lines write.
use Rattle.std.specs.Prelude.{ℕ, zero, suc, cond, List, [], ◌∷◌, Some, None, codes, Option, option_and_then, nat_le, slice_index}
use Rattle.std.specs.Option.{option_map}
use Rattle.std.specs.Str.{bytes_eq}
use Rattle.session.specs.Lines.{words}
use Rattle.session.specs.Numbers.{value}
use Rattle.session.specs.declared.command.Command.{Command}
use Rattle.session.specs.declared.command.Command.TheVariants.{Form, Report}

-- the values of words, if they are just so many and all have one
abbrev pub numbers : ℕ → List (List ℕ) → Option (List ℕ)
numbers zero [] = Some []
numbers zero (w ∷ ws) = None
numbers (suc n) [] = None
numbers (suc n) (w ∷ ws) = option_and_then (λ m. option_map (λ ms. m ∷ ms) (numbers n ws)) (value w)

-- `F limit width`
abbrev pub form : List ℕ → Option Command
form ns = Some (Form (slice_index ns 0) (slice_index ns 1))

-- `Q first count`, with a count of at most 4
abbrev pub report : List ℕ → Option Command
report ns = cond (nat_le (slice_index ns 1) 4) (Some (Report (slice_index ns 0) (slice_index ns 1))) None

-- the command of the words of a line, which the first of them names
abbrev pub of_words : List (List ℕ) → Option Command
of_words [] = None
of_words (name ∷ args) =
    cond (bytes_eq name (codes "F")) (option_and_then form (numbers 2 args))
    (cond (bytes_eq name (codes "Q")) (option_and_then report (numbers 2 args))
    None)

-- the command that a line writes
abbrev pub command_of : List ℕ → Option Command
command_of line = of_words (words line)
