use Rattle.std.proofs.Common.{◌≡◌, ◌++◌, drop}
use Rattle.rule_core.specs.Places.{findings_from}
use Rattle.rule_core.specs.Style.{style_findings}
use Rattle.rule_types.specs.Tokens.{tokens_in}
use Rattle.rule_core.proofs.style.add_style.Given as goal

abbrev pub invariant-loop-written : goal.invariant-loop-written
invariant-loop-written l =
    l.findings.items ++ findings_from l.profile l.line l.place (tokens_in (drop l.written-index l.parts)) ≡ l.initial.findings.items ++ style_findings l.profile l.line (tokens_in l.parts)
