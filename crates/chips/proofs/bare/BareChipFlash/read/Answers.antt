use Rattle.std.proofs.Common.{◌≡◌, ◌+◌, ◌-◌, ◌*◌, take, drop, refl, sym, ap, ◌∙◌, arith, rules}
use Rattle.flash.specs.Numbers.{answer}
use Rattle.flash.proofs.Calls.{not_refused}
use Rattle.chips.proofs.Blocks.{found_shows}
use Rattle.chips.proofs.Calls.{found_page, found_quarter}
use Rattle.chips.proofs.Checked.{err_refused}
use Rattle.chips.proofs.bare.BareChipFlash.read.Goals as goal

pub returns-in_err-check_read : goal.returns-in_err-check_read
returns-in_err-check_read c =
    let whole = c.self.invariant in
    let same = c.self.view_is in
    let found = rw c.in_ok-i.ensures.ok_part at c.number_of.ensures.number in
    let alike : c.from_residual-in_err-check_read.result ≡ c.check_read.result = grind arith in
    let shows = found_shows same whole found c.from-standing.ensures in
    let told = ap answer alike ∙ c.check_read.ensures.answer _ c.args.buffer.now shows refl in
    record { answer = told; buffer = err_refused c.from_residual-in_err-check_read.result _ _ _ (search rules) told }

pub slice_bounds-copy_from_slice-end : goal.slice_bounds-copy_from_slice-end
slice_bounds-copy_from_slice-end c =
    let found = rw c.in_ok-i.ensures.ok_part at c.number_of.ensures.number in
    let passed = c.in_ok-check_read.ensures.passed in
    omega (arith, found_page c.self.view_is c.self.invariant found c.args.page (omega arith))

pub returns : goal.returns
returns c =
    let s = c.self.inside in
    let whole = c.self.invariant in
    let same = c.self.view_is in
    let found = rw c.in_ok-i.ensures.ok_part at c.number_of.ensures.number in
    let n = (c.in_ok-i.i * s.shape.pages + c.args.page) * 2048 + c.args.quarter * 512 in
    let e : n + 512 - n ≡ 512 = omega arith in
    let passed = c.in_ok-check_read.ensures.passed in
    let shows = found_shows same whole found c.from-standing.ensures in
    let done = c.in_ok-check_read.ensures.answer _ c.args.buffer.now shows refl in
    record {
      answer = done;
      buffer = c.copy_from_slice.ensures.after
          ∙ (ap (λ x. take x (drop n s.bytes.now)) e
          ∙ (sym (found_quarter same whole found c.args.page c.args.quarter (omega arith) (omega arith)) ∙ sym (not_refused _ _ _ (sym done))));
    }
