use Rattle.std.proofs.Common.{◌∙◌, map, arith}
use Rattle.engine_checks.proofs.BadFiles.{all_counted, files_told}
use Rattle.engine_checks.proofs.Checking.{checks_many}
use Rattle.engine_checks.proofs.checks.report_on_told.Goals as goal

pub returns-then-tokens-gt-MAX_TOKENS-clause-refused : goal.returns-then-tokens-gt-MAX_TOKENS-clause-refused
returns-then-tokens-gt-MAX_TOKENS-clause-refused c =
    let left = c.in_ok-text.ensures.tokens ∙ all_counted c.args.line.now c.args.asked.now c.args.files.now c.requires.alike in
    checks_many c.args.line.now c.args.files.now (omega (arith, left, c.in_ok-text.tokens-is, c.if-tokens-gt-MAX_TOKENS.true))

pub returns-clause-said : goal.returns-clause-said
returns-clause-said c =
    let left = c.in_ok-text.ensures.tokens ∙ all_counted c.args.line.now c.args.asked.now c.args.files.now c.requires.alike in
    (rw (c.deref.ensures.value) at c.in_ok-report.ensures.said)
    ∙ files_told c.args.line.now c.args.asked.now c.args.files.now c.in_ok-text.field-0.text.items (map (λ n. n.now) c.in_ok-text.field-0.bad.items) c.requires.alike c.requires.plain (omega (arith, left, c.if-tokens-gt-MAX_TOKENS.false, c.in_ok-text.tokens-is))
    c.in_ok-text.ensures.text c.in_ok-text.ensures.bad
