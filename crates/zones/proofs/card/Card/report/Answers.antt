use Rattle.std.proofs.Common.{rules, arith}
use Rattle.zones.proofs.Reporting.{lines_are}
use Rattle.zones.proofs.card.Card.report.Goals as goal

pub returns-clause-list : goal.returns-clause-list
returns-clause-list g c =
    let s = c.args.self.now in
    lines_are (g.F.Flash.memory s.flash) c.in_ok-book.book.now s.book c.args.first c.args.list.now c.loop-i.list (search rules) (search rules) c.loop-i.auto.list (λ k l. c.loop-i.invariant k (omega arith))
