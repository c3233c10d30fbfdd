use Rattle.std.proofs.Common.{◌∙◌, rules, arith}
use Rattle.session.proofs.Counts.{one_more}
use Rattle.session.proofs.command.numbers.Goals as goal

pub loop-n-preserved : goal.loop-n-preserved
loop-n-preserved g c =
    (search rules, one_more _ _ _ _ _ _ _ (omega arith) (omega arith) c.in_ok-next.ensures.steps c.in_ok-n.ensures ∙ c.loop-n.invariant.1)
