use Rattle.std.proofs.Common.{◌≡◌, false, MatchOption, subst, sym, ap, rules}
use Rattle.flash.specs.Memory.{in_shape, inside}
use Rattle.chips.specs.Layout.{Found, Whole}
use Rattle.chips.proofs.Blocks.{found_at, memory_is}
use Rattle.chips.proofs.bare.BareChip.number_of.Goals as goal

pub returns-clause-number : goal.returns-clause-number
returns-clause-number c =
    let s = c.args.self.now.shape in
    let b = c.args.at.bank in
    let k = c.args.at.block in
    let told : MatchOption c.then.result (in_shape s b k ≡ false) (Found s b k) = search (rules, found_at) in
    let whole = subst Whole c.self.view_is c.self.invariant in
    subst (λ t. MatchOption c.then.result (t ≡ false) (Found s b k)) (sym (ap (λ m. inside m b k) (memory_is whole))) told
