use Rattle.std.proofs.Common.{◌≡◌, ℕ, ◌<◌, get_or}
use Rattle.layers.specs.ReplacedPlan.{planned}
use Rattle.layers.proofs.replacer.plan.Plan.row.Given as goal

-- the blocks so far have their places
abbrev pub invariant-loop-block : goal.invariant-loop-block
invariant-loop-block l = (k : ℕ) → k < l.block → get_or l.place-items k 0 ≡ planned l.self l.bank k
