use Rattle.std.proofs.Common.{◌≡◌, ℕ, ◌+◌, ◌<◌, get_or}
use Rattle.flatcard.specs.Calls.{line}
use Rattle.zones.specs.Books.{card_of}
use Rattle.zones.specs.Lines.{no_line}
use Rattle.zones.specs.Numbers.{line_of}
use Rattle.zones.proofs.card.Card.report.Given as goal

abbrev pub invariant-loop-i : goal.invariant-loop-i
invariant-loop-i g l = (k : ℕ) → k < l.i → line_of (get_or l.list k no_line) ≡ line (card_of (g.F.Flash.memory l.self.flash) l.book) (l.first + k)
