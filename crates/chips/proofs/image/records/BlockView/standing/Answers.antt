use Rattle.std.proofs.Common.{◌≡◌, ◌-◌, ◌*◌, length, MatchOption, drop, sym, ap, ◌∙◌, rules, tests, arith}
use Rattle.std.proofs.lemmas.Iterator.Search.{position_from_yields_List}
use Rattle.std.proofs.lemmas.List.{drop_at, length-drop, take_rest}
use Rattle.std.specs.Slice.Exact.{rchunks_exact_remainder, rchunks_exact_rest}
use Rattle.chips.proofs.Chains.{YieldsList-from_rchunks}
use Rattle.chips.proofs.ImageRecords.{standing_from_back, standing_test}
use Rattle.chips.proofs.image.records.BlockView.standing.Goals as goal

pub returns : goal.returns
returns c n long =
    let r = c.args.self.now.bytes.now in
    let pages : length (drop 4 r) ≡ n * 2050 = simp length-drop (omega arith) in
    let cut = c.rchunks_exact.result in
    let none : length (rchunks_exact_remainder cut) ≡ 0 = omega (arith, c.rchunks_exact.ensures.remainder_len, ap length (take_rest r 4)) in
    let rest : rchunks_exact_rest cut ≡ drop 4 r = sym (c.rchunks_exact.ensures.parts ∙ drop_at (rchunks_exact_remainder cut) (rchunks_exact_rest cut) 0 none) ∙ take_rest r 4 in
    let found = position_from_yields_List standing_test _ _ c.position-after.result c.position-after.ensures.ran
    (YieldsList-from_rchunks 2050 (omega arith) (drop 4 r) n c.rchunks_exact.ensures.size rest pages) (λ x b q k. search (rules, tests)) in
    let told : MatchOption c.position-after.result (c.map_or.result ≡ 0) (λ i. c.map_or.result ≡ n - i) = search rules in
    standing_from_back r n c.position-after.result c.map_or.result found told
