use Rattle.std.proofs.Common.{◌≡◌, sym, ap, ◌∙◌, arith, rules}
use Rattle.flash.specs.Calls.{spot}
use Rattle.flash.specs.Numbers.{answer}
use Rattle.flash.proofs.Calls.{not_refused}
use Rattle.chips.specs.Bounded.{memory_of}
use Rattle.chips.proofs.Blocks.{found_lives}
use Rattle.chips.proofs.Calls.{memory_erased}
use Rattle.chips.proofs.Checked.{err_refused}
use Rattle.chips.proofs.bare.BareChipFlash.erase.Goals as goal

pub returns-in_err-left-clause-answer : goal.returns-in_err-left-clause-answer
returns-in_err-left-clause-answer c =
    let found = rw c.in_ok-i.ensures.ok_part at c.number_of.ensures.number in
    let seen = spot (memory_of c.args.self.now) c.args.at.bank c.args.at.block in
    let alike : answer c.from_residual-in_err-left.result ≡ answer c.check_erase.result = search rules in
    alike ∙ c.check_erase.ensures.answer seen (found_lives c.self.view_is c.self.invariant found)

pub returns-in_err-left-clause-after : goal.returns-in_err-left-clause-after
returns-in_err-left-clause-after c = err_refused c.from_residual-in_err-left.result _ _ _ (search rules) (returns-in_err-left-clause-answer c)

pub returns : goal.returns
returns c =
    let whole = c.self.invariant in
    let same = c.self.view_is in
    let found = rw c.in_ok-i.ensures.ok_part at c.number_of.ensures.number in
    let seen = spot (memory_of c.args.self.now) c.args.at.bank c.args.at.block in
    let done = c.in_ok-left.ensures.answer seen (found_lives same whole found) in
    record {
      answer = done;
      after = memory_erased same whole found _ c.blank.ensures.standing (omega (arith, c.blank.ensures.lives, c.in_ok-left.ensures.passed)) ∙ sym (not_refused _ _ _ (sym done));
      bytes = ap (λ parts. parts.bytes) same;
      refused = tt;
    }
