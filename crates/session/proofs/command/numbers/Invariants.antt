use Rattle.std.proofs.Common.{◌≡◌, ◌-◌, length, take}
use Rattle.session.specs.Commands.{numbers}
use Rattle.session.specs.Lines.{words_left}
use Rattle.session.proofs.Counts.{with_more}
use Rattle.session.proofs.command.numbers.Given as goal

abbrev pub invariant-loop-n : goal.invariant-loop-n
invariant-loop-n g l =
    (length l.n-items ≡ g.row.N) × (with_more (take l.n-index l.n-items) (g.row.N - l.n-index) (words_left l.words) ≡ numbers g.row.N (words_left l.fn.words))
