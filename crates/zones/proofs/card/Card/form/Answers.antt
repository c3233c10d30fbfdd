use Rattle.std.proofs.Common.{sym, rules}
use Rattle.zones.proofs.Forming.{form_is, intact_is}
use Rattle.zones.proofs.card.Card.form.Goals as goal

pub invariant_of-self : goal.invariant_of-self
invariant_of-self g c = record { intact = intact_is _ c.args.limit c.args.width c.in_ok-geometry.geometry (search rules) (sym c.if-printed.ensures) _ c.new.ensures }

pub returns-clause-flat : goal.returns-clause-flat
returns-clause-flat g c = form_is (g.F.Flash.memory c.args.self.now.flash) c.args.limit c.args.width c.in_ok-geometry.geometry (search rules) (sym c.if-printed.ensures) _ c.new.ensures _ (sym c.if-is_some.ensures)
