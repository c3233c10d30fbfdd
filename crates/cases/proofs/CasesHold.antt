-- The worked cases, each by computing.
use mathlib.Core.Path.{refl}
use Rattle.flatcard.proofs.CasesHold as model
use Rattle.cases.specs.Cases.{WorkedCases}

pub worked_cases : WorkedCases
worked_cases = record {
  modelled = model.worked_cases;
  whitened_ff = refl;
  replaced_2 = λ at. refl;
}
