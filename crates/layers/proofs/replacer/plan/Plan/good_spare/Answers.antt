use Rattle.std.proofs.Common.{not, rules, sym, ap, ◌∙◌, arith}
use borrow.Author.Tests.{tests}
use Rattle.std.specs.List.{slice_get, range_with_len}
use Rattle.std.proofs.lemmas.Iterator.{YieldsList-from_range}
use Rattle.std.proofs.lemmas.Iterator.Consumers.{YieldsList-at, YieldsList-from_filter, nth_from_yields_List}
use Rattle.std.proofs.lemmas.Iterator.Adapters.{option_map_id}
use Rattle.flash.specs.Maps.{good_of, is_bad}
use Rattle.layers.specs.ReplacedPlan.{shown_of}
use Rattle.layers.proofs.replacer.plan.Plan.good_spare.Goals as goal

pub returns : goal.returns
returns c =
    let p = c.args.self.now in
    let bad = p.bad.now in
    let goods = good_of bad c.args.bank (range_with_len (shown_of p) p.spares) in
    sym (option_map_id c.nth.result)
    ∙ (nth_from_yields_List c.nth.result _ _ c.nth.ensures.ran
    (YieldsList-from_filter _ (λ k. not (is_bad bad c.args.bank k)) (YieldsList-at c.filter.ensures.source (YieldsList-from_range (shown_of p) p.below.blocks p.spares (grind arith) (omega (arith, p.some_shown)))) c.filter.ensures.closure (λ x b q k. search (rules, tests)))
    ∙ ap (slice_get goods) (omega arith))
