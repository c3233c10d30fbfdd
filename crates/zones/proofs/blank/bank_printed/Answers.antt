use Rattle.std.proofs.Common.{rules}
use borrow.Author.Tests.{tests}
use Rattle.zones.specs.Blank.{stands}
use Rattle.zones.proofs.Ranges.{any_asked}
use Rattle.zones.proofs.blank.bank_printed.Goals as goal

pub returns : goal.returns
returns g c = any_asked _ (stands (g.F.Flash.memory c.args.flash.now) c.args.bank) _ _ _ c.any.ensures.ran (λ x b q k. search (rules, tests))
