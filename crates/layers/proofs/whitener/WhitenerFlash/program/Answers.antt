use Rattle.std.proofs.Common.{ap, ◌∙◌}
use Rattle.layers.specs.Whitened.{whitened_run}
use Rattle.layers.proofs.Whites.{whitened_programmed}
use Rattle.layers.proofs.whitener.WhitenerFlash.program.Goals as goal

pub returns-clause-after : goal.returns-clause-after
returns-clause-after g c =
    let a = c.args in
    let first = c.first_mask in
    let run = c.whiten.ensures ∙ ap (whitened_run first.result) c.in-Ok.ensures.1.same in
    whitened_programmed (g.F.Flash.memory a.self.now.inner) a.at.bank a.at.block a.page first.result first.ensures _ a.bytes.now c.whiten.new.bytes run c.program-2.ensures.after
