use Rattle.std.proofs.Common.{◌+◌, ◌%◌, get_or, ap, ◌∙◌, arith}
use lib.Bits.{bit_xor}
use Rattle.layers.proofs.Indexed.{indexed_step}
use Rattle.layers.proofs.whitener.whiten.Goals as goal

pub loop-index-preserved : goal.loop-index-preserved
loop-index-preserved c =
    let l = c.loop-index in
    indexed_step (λ n x. bit_xor x ((c.args.first + n) % 256)) l.bytes l.index 0 _ (omega arith) (ap (bit_xor (get_or l.bytes l.index 0)) (omega arith)) ∙ l.invariant
