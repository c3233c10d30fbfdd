use Rattle.std.proofs.Common.{◌≡◌, ◌-◌, ◌*◌, true, ◌&&◌, length, drop, sym, ap, ◌∙◌, rules, tests, arith}
use Rattle.std.proofs.lemmas.Iterator.Consumers.{YieldsList-at, count_from_yields_List}
use Rattle.std.proofs.lemmas.Iterator.Search.{YieldsList-from_take_while, all_from_yields_List}
use Rattle.std.proofs.lemmas.List.{length-drop, take_rest}
use Rattle.std.proofs.lemmas.List.Folds.{length-prefix_len}
use Rattle.chips.specs.ImageLayout.{block_mark, is_marked, pages_fit, standing_in}
use Rattle.chips.proofs.Chains.{YieldsList-from_chunks}
use Rattle.chips.proofs.ImageRecords.{blank_test, from_front, lead, lead_most, others, pages_in_order, standing_test}
use Rattle.chips.proofs.image.records.BlockView.fits.Goals as goal

pub returns : goal.returns
returns c n long =
    let r = c.args.self.now.bytes.now in
    let pages : length (drop 4 r) ≡ n * 2050 = simp length-drop (omega arith) in
    let most = lead_most r n in
    let count : c.count-standing.result ≡ lead r n =
    count_from_yields_List c.take_while.result c.count-standing.result c.count-standing.ensures.ran
    (YieldsList-from_take_while _ standing_test
    (YieldsList-at c.take_while.ensures.source (YieldsList-from_chunks 2050 (omega arith) (drop 4 r) n c.chunks_exact.ensures.size (c.chunks_exact.ensures.rest ∙ take_rest r 4) pages))
    c.take_while.ensures.closure c.take_while.ensures.done (λ x b q k. search (rules, tests)))
    ∙ length-prefix_len standing_test (from_front r n) in
    let rest : length (others r n) ≡ (n - lead r n) * 2050 = simp length-drop (omega arith) in
    let told = all_from_yields_List blank_test _ _ c.all.result c.all.ensures.ran
    (YieldsList-from_chunks 2050 (omega arith) (others r n) (n - lead r n) c.chunks_exact-2.ensures.size (c.chunks_exact-2.ensures.rest ∙ (take_rest _ (c.count-standing.result * 2050) ∙ (λ t. drop (count t * 2050) (take_rest r 4 t)))) rest)
    (λ x b q k. search (rules, tests)) in
    let marked : is_marked r block_mark ≡ true = search rules in
    told ∙ (pages_in_order r n ∙ sym (ap (λ b. b && pages_fit r (standing_in r n) n) marked))
