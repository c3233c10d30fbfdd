use Rattle.std.proofs.Common.{sym, ◌∙◌, arith}
use Rattle.flash.specs.Calls.{program_number, written}
use Rattle.layers.proofs.Carried.{done}
use Rattle.layers.proofs.Moved.{in_second}
use Rattle.layers.proofs.pair.PairFlash.program.Goals as goal

pub returns-in-Second-clause-after : goal.returns-in-Second-clause-after
returns-in-Second-clause-after g c =
    let m = g.A.Flash.memory c.args.self.now.first in
    let n = g.B.Flash.memory c.args.self.now.second in
    let bytes = c.args.bytes.now in
    let side = sym c.side.ensures ∙ (rw c.in-Second.is at c.in_ok-at.ensures.ok_part) in
    done (in_second m n c.args.at _ side) (λ s. program_number s c.args.page bytes) (λ v. written v bytes) (g.B.Flash.memory c.program-in-Second.new.self) (grind arith)
