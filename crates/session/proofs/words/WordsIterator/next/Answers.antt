use Rattle.std.proofs.Common.{length, arith, rules, sym, ap, ◌∙◌}
use Rattle.session.proofs.Splits.{first_word, no_word}
use Rattle.session.proofs.words.WordsIterator.next.Goals as goal

pub returns-in_err-line-clause-steps : goal.returns-in_err-line-clause-steps
returns-in_err-line-clause-steps c = let none = no_word c.take-rest.result.now (sym c.in_err-line.was ∙ c.start.ensures) in search rules

pub returns : goal.returns
returns c =
    let some = rw c.take-rest.ensures.value at (first_word c.take-rest.result.now (sym c.in_ok-line.was ∙ c.start.ensures) c.end.ensures c.unwrap_or.ensures c.split_at.ensures.front c.split_at.ensures.back) in
    record { steps = some; goes = omega (arith, ap length some) }
