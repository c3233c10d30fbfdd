-- What comes of a call that a check refuses.
use Rattle.std.proofs.Common.{◌≡◌, ℕ, Result, Ok, Err, true, sym, refl, arith}
use Rattle.std.specs.Result.{is_err}
use Rattle.flash.specs.Tables.{unless_refused}
use Rattle.flash.specs.Numbers.{answer}
use Rattle.flash.specs.declared.Refusal.{Refusal}
use Rattle.flash.proofs.Calls.{number_some, refused}

-- the call's answer is the number of a refusal, so it leaves all as it was
pub err_refused : {A T : Type 0} (r : Result T Refusal) (n : ℕ) (new old : A) → is_err r ≡ true → answer r ≡ n → old ≡ unless_refused n new old
err_refused (Ok x) n new old h e = absurd (cc)
err_refused (Err r) n new old h e = sym (refused n n new old refl (omega (arith, number_some r)))
