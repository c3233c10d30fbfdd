use Rattle.std.proofs.Common.{◌≡◌, ◌+◌, ◌%◌, ◌++◌, take, drop}
use lib.Bits.{bit_xor}
use Rattle.layers.specs.Whitened.{indexed, whitened_run}
use Rattle.layers.proofs.whitener.whiten.Given as goal

-- the bytes so far, with those to come whitened from here on
abbrev pub invariant-loop-index : goal.invariant-loop-index
invariant-loop-index l = take l.index l.bytes ++ indexed (λ n x. bit_xor x ((l.first + n) % 256)) l.index (drop l.index l.bytes) ≡ whitened_run l.first l.fn.bytes
