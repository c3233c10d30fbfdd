use Rattle.std.proofs.Common.{refl, sym, ◌∙◌}
use Rattle.std.proofs.lemmas.Bool.{and_from, cond-true}
use Rattle.flash.specs.Memory.{no_banks}
use Rattle.chips.specs.Bounded.{whole_of}
use Rattle.chips.specs.Layout.{counts_fit, laid_out, made_of, sizes_fit}
use Rattle.chips.proofs.Blocks.{memory_is}
use Rattle.chips.proofs.bare.BareChip.new.Goals as goal

pub invariant_of-result-2 : goal.invariant_of-result-2
invariant_of-result-2 c =
    whole_of (made_of c.args.shape c.args.bytes.now c.args.records.now) (sym c.if-not-sizes_fit.ensures) (sym c.if-not-counts_fit.ensures.answer) (c.if-not-counts_fit.ensures.lives refl)

pub returns : goal.returns
returns c =
    let parts = made_of c.args.shape c.args.bytes.now c.args.records.now in
    let sizes = sym c.if-not-sizes_fit.ensures in
    let counts = sym c.if-not-counts_fit.ensures.answer in
    memory_is (whole_of parts sizes counts (c.if-not-counts_fit.ensures.lives refl))
    ∙ sym (cond-true _ (laid_out parts) no_banks (and_from (sizes_fit parts) (counts_fit parts.shape.pages parts.records) sizes counts))
