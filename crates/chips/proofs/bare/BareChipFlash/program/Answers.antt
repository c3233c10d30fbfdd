use Rattle.std.proofs.Common.{◌≡◌, ◌+◌, ◌*◌, refl, sym, ap, ◌∙◌, arith, rules}
use Rattle.flash.specs.Numbers.{answer}
use Rattle.flash.proofs.Calls.{not_refused}
use Rattle.chips.proofs.Blocks.{found_shows}
use Rattle.chips.proofs.Calls.{found_page, memory_programmed}
use Rattle.chips.proofs.Checked.{err_refused}
use Rattle.chips.proofs.Pages.{copied_page}
use Rattle.chips.proofs.bare.BareChipFlash.program.Goals as goal

pub returns-in_err-check_program-clause-answer : goal.returns-in_err-check_program-clause-answer
returns-in_err-check_program-clause-answer c =
    let whole = c.self.invariant in
    let same = c.self.view_is in
    let found = rw c.in_ok-i.ensures.ok_part at c.number_of.ensures.number in
    let alike : c.from_residual-in_err-check_program.result ≡ c.check_program.result = grind arith in
    let shows = found_shows same whole found c.from-standing.ensures in
    ap answer alike ∙ c.check_program.ensures.answer _ c.args.bytes.now shows refl

pub returns-in_err-check_program-clause-after : goal.returns-in_err-check_program-clause-after
returns-in_err-check_program-clause-after c =
    err_refused c.from_residual-in_err-check_program.result _ _ _ (search rules) (returns-in_err-check_program-clause-answer c)

pub slice_bounds-copy_from_slice-end : goal.slice_bounds-copy_from_slice-end
slice_bounds-copy_from_slice-end c =
    let found = rw c.in_ok-i.ensures.ok_part at c.number_of.ensures.number in
    let passed = c.in_ok-check_program.ensures.passed in
    found_page c.self.view_is c.self.invariant found c.args.page (omega arith)

pub returns : goal.returns
returns c =
    let s = c.self.inside in
    let whole = c.self.invariant in
    let same = c.self.view_is in
    let found = rw c.in_ok-i.ensures.ok_part at c.number_of.ensures.number in
    let passed = c.in_ok-check_program.ensures.passed in
    let shows = found_shows same whole found c.from-standing.ensures in
    let done = c.in_ok-check_program.ensures.answer _ c.args.bytes.now shows refl in
    record {
      answer = done;
      after = memory_programmed same whole found c.args.page c.args.bytes.now _ _ (omega arith) (omega arith) (omega arith)
          (copied_page s.bytes.now c.args.bytes.now c.copy_from_slice.new.self (c.in_ok-i.i * s.shape.pages + c.args.page) c.copy_from_slice.ensures.after)
          (omega arith) refl
          ∙ sym (not_refused _ _ _ (sym done));
      refused = tt;
    }
