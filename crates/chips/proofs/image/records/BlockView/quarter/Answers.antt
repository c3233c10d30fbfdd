use Rattle.std.proofs.Common.{◌≡◌, ◌+◌, ◌-◌, ◌*◌, take, drop, sym, ap, ◌∙◌, arith}
use Rattle.chips.proofs.ImageRecords.{quarter_is}
use Rattle.chips.proofs.image.records.BlockView.quarter.Goals as goal

pub returns-clause-value : goal.returns-clause-value
returns-clause-value c =
    let n = 4 + c.args.page * 2050 + 2 + c.args.quarter * 512 in
    let e : n + 512 - n ≡ 512 = omega arith in
    let r = c.args.self.now.bytes.now in
    ap (λ x. take x (drop n r)) e ∙ sym (quarter_is r c.args.page c.args.quarter (omega arith))
