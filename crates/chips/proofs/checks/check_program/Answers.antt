use Rattle.std.proofs.Common.{◌∙◌}
use Rattle.chips.proofs.checks.check_program.Goals as goal

pub returns-clause-answer : goal.returns-clause-answer
returns-clause-answer c s source shows long =
    let passed = c.in_ok-check_page.ensures.passed in
    c.check_next.ensures.answer s c.args.pages source shows passed.0 (long ∙ passed.1)
