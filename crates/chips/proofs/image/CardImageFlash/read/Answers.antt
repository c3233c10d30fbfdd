use Rattle.std.proofs.Common.{◌≡◌, ap, refl, sym, ◌∙◌, rules}
use Rattle.flash.specs.Numbers.{answer, number}
use Rattle.flash.proofs.Calls.{not_refused}
use Rattle.chips.specs.ImageMemory.{shape_of_image}
use Rattle.chips.proofs.Checked.{err_refused}
use Rattle.chips.proofs.ImageCalls.{kept_shape, shown_quarter, shown_shows}
use Rattle.chips.proofs.image.CardImageFlash.read.Goals as goal

pub returns-in_err-check_sector : goal.returns-in_err-check_sector
returns-in_err-check_sector c =
    let seen = rw c.in_ok-block.ensures.ok_part at c.block.ensures in
    let pages = ap (λ v. v.pages) (kept_shape c.self.invariant c.self.view_is) in
    let r = c.from_residual-in_err-check_sector.result in
    let same : answer r ≡ number c.in_err-check_sector.field-0.0 = search rules in
    let told = same ∙ c.in_err-check_sector.ensures.refused _ _ c.args.buffer.now (shown_shows seen.shown _ seen.same _ refl _ pages) refl in
    record { answer = told; buffer = err_refused r _ _ _ (search rules) told }

pub returns-in_err-check_stands : goal.returns-in_err-check_stands
returns-in_err-check_stands c =
    let seen = rw c.in_ok-block.ensures.ok_part at c.block.ensures in
    let pages = ap (λ v. v.pages) (kept_shape c.self.invariant c.self.view_is) in
    let shows = shown_shows seen.shown _ seen.same _ (c.standing.ensures (shape_of_image c.args.self.now).pages seen.long) _ pages in
    let passed = c.in_ok-check_sector.ensures.passed in
    let r = c.from_residual-in_err-check_stands.result in
    let same : answer r ≡ answer c.check_stands.result = search rules in
    let told = same ∙ c.check_stands.ensures.answer _ _ c.args.quarter c.args.buffer.now shows passed.0 passed.1.0 passed.1.1 in
    record { answer = told; buffer = err_refused r _ _ _ (search rules) told }

pub returns : goal.returns
returns c =
    let seen = rw c.in_ok-block.ensures.ok_part at c.block.ensures in
    let pages = ap (λ v. v.pages) (kept_shape c.self.invariant c.self.view_is) in
    let count = c.standing.ensures (shape_of_image c.args.self.now).pages seen.long in
    let passed = c.in_ok-check_sector.ensures.passed in
    let done = c.in_ok-check_stands.ensures.answer _ _ c.args.quarter c.args.buffer.now (shown_shows seen.shown _ seen.same _ count _ pages) passed.0 passed.1.0 passed.1.1 in
    record {
      answer = done;
      buffer = c.copy_from_slice.ensures.after
          ∙ (c.quarter.ensures.value
          ∙ (shown_quarter seen.shown _ seen.same _ count c.args.page c.args.quarter c.in_ok-check_stands.ensures.passed ∙ sym (not_refused _ _ _ (sym done))));
    }
