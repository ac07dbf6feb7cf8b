use Rattle.std.proofs.Common.{◌≡◌, map, ap, sym, ◌∙◌, arith}
use Rattle.std.specs.List.{flat_map}
use Rattle.rule_types.specs.Rules.{tokens_in}
use Rattle.rule_core.specs.Rules.{set_of_as}
use Rattle.engine_formats.specs.Diagnostics.{shown}
use Rattle.engine_checks.specs.Files.{rules_reported}
use Rattle.engine_checks.specs.Outcomes.{checks_said}
use Rattle.engine_checks.specs.Tables.{rules_reported_by}
use Rattle.engine_checks.proofs.Checking.{checks_few, checks_many, files_by}
use Rattle.engine_checks.proofs.TokensLeft.{all_left}
use Rattle.engine_checks.proofs.checks.report_on_found.Goals as goal

pub returns-then-found-gt-MAX_TOKENS-clause-refused : goal.returns-then-found-gt-MAX_TOKENS-clause-refused
returns-then-found-gt-MAX_TOKENS-clause-refused c =
    let left : c.in_ok-found.found.tokens ≡ tokens_in (set_of_as c.args.line.now.profile c.args.files.now).rules =
    c.in_ok-found.ensures.tokens ∙ all_left c.args.line.now c.args.asked.now.profile c.deref.result.now c.args.files.now c.requires.profile (c.deref.ensures.value ∙ c.in_ok-reads.ensures) in
    checks_many c.args.line.now c.args.files.now (omega (arith, left, c.if-found-gt-MAX_TOKENS.true))

pub returns-clause-said : goal.returns-clause-said
returns-clause-said c =
    let left : c.in_ok-found.found.tokens ≡ tokens_in (set_of_as c.args.line.now.profile c.args.files.now).rules =
    c.in_ok-found.ensures.tokens ∙ all_left c.args.line.now c.args.asked.now.profile c.deref.result.now c.args.files.now c.requires.profile (c.deref.ensures.value ∙ c.in_ok-reads.ensures) in
    let shows : map shown c.deref-2.result.now ≡ flat_map (rules_reported c.args.line.now) c.args.files.now =
    ap (map shown) c.deref-2.ensures.value
    ∙ c.in_ok-found.ensures.reported
    ∙ ap (flat_map (rules_reported_by c.args.asked.now)) (c.deref.ensures.value ∙ c.in_ok-reads.ensures)
    ∙ files_by c.args.line.now c.args.asked.now c.requires.profile c.requires.accounts c.requires.style c.requires.lint c.requires.ignored c.args.files.now in
    c.in_ok-report.ensures.said
    ∙ ap (checks_said c.args.line.now c.args.files.now) shows
    ∙ sym (checks_few c.args.line.now c.args.files.now (omega (arith, left, c.if-found-gt-MAX_TOKENS.false)))
