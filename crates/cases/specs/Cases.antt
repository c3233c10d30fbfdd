-- The worked cases of the model, and of the layers: what the definitions that the contracts cite come to on a small card, on one byte and on one bad block.
use Rattle.std.specs.Prelude.{◌≡◌, [], ◌∷◌, ℕ, get_or, replicate}
use Rattle.flash.specs.Maps.{address}
use Rattle.flash.specs.Memory.{Block, Memory}
use Rattle.flatcard.specs.Cases as model
use Rattle.layers.specs.Replaced.{replaced}
use Rattle.layers.specs.Whitened.{whitened}

-- ---- the flashes that the cases speak of
-- two banks of three blocks of four pages, all standing, every byte of them FF
abbrev pub all_ones : Memory
all_ones = record { banks = 2; blocks = 3; depth = 4; at = λ b k. record { pages = replicate 4 (replicate 2048 0xFF); lives = 0 } }

-- one bank of eight blocks, whatever they hold
abbrev pub eight_blocks : (ℕ → ℕ → Block) → Memory
eight_blocks at = record { banks = 1; blocks = 8; depth = 1; at = at }

pub record WorkedCases : Type 0 where
  -- those of the model, and of one byte and one block by their maps
  pub modelled : model.WorkedCases
  -- whitening: FF at position 4 of page 3 of block 2 of bank 1
  pub whitened_ff : get_or (get_or ((whitened all_ones).at 1 2).pages 3 []) 4 0 ≡ 0xB7
  -- replacing: of eight blocks two are spares, and blocks 2 and 6 of bank 0 are bad
  pub replaced_2 : (at : ℕ → ℕ → Block) → (replaced 2 (address 0 2 ∷ address 0 6 ∷ []) (eight_blocks at)).at 0 2 ≡ at 0 7
