use Rattle.layers.proofs.ReplacedApart.{rows_apart, rows_low}
use Rattle.layers.proofs.replacer.Replacer.new.Goals as goal

pub invariant_of-result-2-clause-low : goal.invariant_of-result-2-clause-low
invariant_of-result-2-clause-low g c = rows_low c.in-Some.plan (g.F.Flash.memory c.args.inner) c.in-Some.ensures.0 c.shown.result c.shown.ensures c.rows.result c.rows.ensures

pub invariant_of-result-2-clause-apart : goal.invariant_of-result-2-clause-apart
invariant_of-result-2-clause-apart g c = rows_apart c.in-Some.plan (g.F.Flash.memory c.args.inner) c.in-Some.ensures.0 c.shown.result c.shown.ensures c.rows.result c.rows.ensures
