-- The worked cases, each by computing.
use Rattle.std.proofs.Common.{refl}
use Rattle.flatcard.specs.Cases.{WorkedCases}

pub worked_cases : WorkedCases
worked_cases = record {
  offset_5 = refl;
  offset_15 = refl;
  some_kept = refl;
  some_kept_pointer = refl;
  all_kept = refl;
  all_kept_full = refl;
  none_kept = refl;
  none_kept_pointer = refl;
  open_limit = refl;
  worn_reset = refl;
  no_group = refl;
  whitened = refl;
  replaced = refl;
}
