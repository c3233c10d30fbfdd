use Rattle.std.proofs.Common.{ap, ◌∙◌, rules, arith}
use borrow.Author.Tests.{tests}
use Rattle.flatcard.specs.Verbs.{any}
use Rattle.zones.specs.Blank.{bank_stands}
use Rattle.zones.proofs.Ranges.{any_asked}
use Rattle.zones.proofs.blank.printed.Goals as goal

pub returns : goal.returns
returns g c =
    let m = g.F.Flash.memory c.args.flash.now in
    let s = c.shape-shape.result in
    any_asked _ (bank_stands m s) _ _ _ c.any.ensures.ran (λ x b q k. search (rules, tests))
    ∙ (ap (λ n. any n (bank_stands m s)) {y = s.banks} (omega arith) ∙ ap (λ s. any s.banks (bank_stands m s)) c.shape-shape.ensures)
