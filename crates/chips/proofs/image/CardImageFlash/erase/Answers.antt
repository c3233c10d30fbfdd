use Rattle.std.proofs.Common.{◌≡◌, refl, sym, ◌∙◌, rules}
use Rattle.flash.specs.Calls.{spot}
use Rattle.flash.specs.Numbers.{answer}
use Rattle.chips.specs.ImageMemory.{memory_of_image}
use Rattle.chips.proofs.Checked.{err_refused}
use Rattle.chips.proofs.ImageCalls.{erase_makes, kept_shape}
use Rattle.chips.proofs.image.CardImageFlash.erase.Goals as goal

pub returns-in_err-left : goal.returns-in_err-left
returns-in_err-left c =
    let seen = spot (memory_of_image c.args.self.now) c.args.at.bank c.args.at.block in
    let same : answer c.from_residual-in_err-left.result ≡ answer c.check_erase.result = search rules in
    let told = same ∙ c.check_erase.ensures.answer seen (sym c.lives.ensures ∙ c.in_ok-lives.ensures.ok_part) in
    let r = c.from_residual-in_err-left.result in
    record { answer = told; after = err_refused r _ _ _ (search rules) told; shape = refl; bytes = err_refused r _ _ _ (search rules) told }

pub invariant_of-self : goal.invariant_of-self
invariant_of-self c =
    let some = sym c.lives.ensures ∙ c.in_ok-lives.ensures.ok_part in
    kept_shape c.self.invariant c.self.view_is
    ∙ (erase_makes c.place_of-place.ensures refl c.self.view_is _ _ _ some c.in_ok-left.ensures.passed c.write_blank.ensures).named

pub returns : goal.returns
returns c =
    let seen = spot (memory_of_image c.args.self.now) c.args.at.bank c.args.at.block in
    let some = sym c.lives.ensures ∙ c.in_ok-lives.ensures.ok_part in
    let made = erase_makes c.place_of-place.ensures refl c.self.view_is _ _ _ some c.in_ok-left.ensures.passed c.write_blank.ensures in
    record { answer = c.in_ok-left.ensures.answer seen some; after = made.shown; shape = sym made.named; bytes = made.bytes }
