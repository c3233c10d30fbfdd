use Rattle.std.proofs.Common.{◌∙◌}
use Rattle.chips.proofs.checks.check_read.Goals as goal

pub returns-clause-answer : goal.returns-clause-answer
returns-clause-answer c s buffer shows long =
    let passed = c.in_ok-check_sector.ensures.passed in
    c.check_stands.ensures.answer s c.args.pages c.args.quarter buffer shows passed.0 passed.1.0 (long ∙ passed.1.1)
