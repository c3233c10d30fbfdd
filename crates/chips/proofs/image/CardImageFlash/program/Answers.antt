use Rattle.std.proofs.Common.{◌≡◌, ◌<◌, ap, refl, ◌∙◌, rules, subst, sym}
use Rattle.flash.specs.Numbers.{answer, number}
use Rattle.chips.specs.ImageMemory.{shape_of_image}
use Rattle.chips.proofs.Checked.{err_refused}
use Rattle.chips.proofs.ImageCalls.{kept_shape, program_makes, shown_shows, shown_standing}
use Rattle.chips.proofs.image.CardImageFlash.program.Goals as goal

pub returns-in_err-check_page : goal.returns-in_err-check_page
returns-in_err-check_page c =
    let seen = rw c.in_ok-block.ensures.ok_part at c.block.ensures in
    let pages = ap (λ v. v.pages) (kept_shape c.self.invariant c.self.view_is) in
    let r = c.from_residual-in_err-check_page.result in
    let same : answer r ≡ number c.in_err-check_page.field-0.0 = search rules in
    let told = same ∙ c.in_err-check_page.ensures.refused _ _ c.args.bytes.now (shown_shows seen.shown _ seen.same _ refl _ pages) refl in
    record { answer = told; after = err_refused r _ _ _ (search rules) told; shape = refl; bytes = err_refused r _ _ _ (search rules) told }

pub returns-in_err-check_next : goal.returns-in_err-check_next
returns-in_err-check_next c =
    let seen = rw c.in_ok-block.ensures.ok_part at c.block.ensures in
    let pages = ap (λ v. v.pages) (kept_shape c.self.invariant c.self.view_is) in
    let shows = shown_shows seen.shown _ seen.same _ (c.standing.ensures (shape_of_image c.args.self.now).pages seen.long) _ pages in
    let passed = c.in_ok-check_page.ensures.passed in
    let r = c.from_residual-in_err-check_next.result in
    let same : answer r ≡ answer c.check_next.result = search rules in
    let told = same ∙ c.check_next.ensures.answer _ _ c.args.bytes.now shows passed.0 passed.1 in
    record { answer = told; after = err_refused r _ _ _ (search rules) told; shape = refl; bytes = err_refused r _ _ _ (search rules) told }

pub invariant_of-self : goal.invariant_of-self
invariant_of-self c =
    let seen = rw c.in_ok-block.ensures.ok_part at c.block.ensures in
    let some = shown_standing seen.shown _ seen.same _ (c.standing.ensures (shape_of_image c.args.self.now).pages seen.long) in
    let same = kept_shape c.self.invariant c.self.view_is in
    let low = subst (λ s. c.args.page < s.pages) same c.in_ok-check_page.ensures.passed.0 in
    same
    ∙ (program_makes c.place_of-place.ensures refl c.self.view_is c.args.page _ _ _ some (low, (c.in_ok-check_next.ensures.passed, c.in_ok-check_page.ensures.passed.1)) c.write_page.ensures).named

pub returns : goal.returns
returns c =
    let seen = rw c.in_ok-block.ensures.ok_part at c.block.ensures in
    let count = c.standing.ensures (shape_of_image c.args.self.now).pages seen.long in
    let same = kept_shape c.self.invariant c.self.view_is in
    let passed = c.in_ok-check_page.ensures.passed in
    let low = subst (λ s. c.args.page < s.pages) same passed.0 in
    let made = program_makes c.place_of-place.ensures refl c.self.view_is c.args.page _ _ _ (shown_standing seen.shown _ seen.same _ count)
    (low, (c.in_ok-check_next.ensures.passed, passed.1)) c.write_page.ensures in
    record {
      answer = c.in_ok-check_next.ensures.answer _ _ c.args.bytes.now (shown_shows seen.shown _ seen.same _ count _ (ap (λ v. v.pages) same)) passed.0 passed.1;
      after = made.shown;
      shape = sym made.named;
      bytes = made.bytes;
    }
