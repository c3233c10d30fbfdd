use Rattle.std.proofs.Common.{length}
use Rattle.layers.proofs.replacer.plan.+listed.Given as goal

abbrev pub decreases-listed : goal.decreases-listed
decreases-listed l = length l.bad.now
