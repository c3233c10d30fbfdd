use Rattle.std.proofs.Common.{◌≡◌, ℕ, ◌<◌}
use Rattle.layers.specs.ReplacedPlan.{planned, shown_of}
use Rattle.layers.specs.ReplacedPlaces.{place_in}
use Rattle.layers.proofs.replacer.plan.Plan.rows.Given as goal

-- the rows so far have the places
abbrev pub invariant-loop-bank : goal.invariant-loop-bank
invariant-loop-bank l = (b k : ℕ) → b < l.bank → k < shown_of l.self → place_in l.row-items b k ≡ planned l.self b k
