-- What a plan says of the shown blocks.
use Rattle.std.specs.Prelude.{ℕ, ◌-◌}
use Rattle.flash.specs.Maps.{replaced_block}
use Rattle.layers.specs.declared.replacer.plan.Plan.{Plan}

-- how many blocks of each bank are shown
abbrev pub shown_of : Plan → ℕ
shown_of p = p.below.blocks - p.spares

-- where the block k of the bank b is found
abbrev pub planned : Plan → ℕ → ℕ → ℕ
planned p b k = replaced_block p.below.blocks p.spares p.bad.now b k
