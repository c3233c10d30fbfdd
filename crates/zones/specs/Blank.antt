-- Whether pages stand on a flash.
use Rattle.std.specs.Prelude.{ℕ, Bool, length, nat_lt}
use Rattle.flash.specs.declared.Shape.{Shape}
use Rattle.flash.specs.Memory.{Memory}
use Rattle.flatcard.specs.Verbs.{any}

-- a page stands in a block
abbrev pub stands : Memory → ℕ → ℕ → Bool
stands m bank block = nat_lt 0 (length (m.at bank block).pages)

-- a page stands in a bank of a flash of that shape
abbrev pub bank_stands : Memory → Shape → ℕ → Bool
bank_stands m s bank = any s.blocks (stands m bank)
