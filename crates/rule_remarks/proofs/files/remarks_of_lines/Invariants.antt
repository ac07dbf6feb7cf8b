use Rattle.std.proofs.Common.{◌≡◌, ◌++◌, drop}
use Rattle.rule_remarks.specs.Rules.{remarks_from}
use Rattle.rule_remarks.proofs.files.remarks_of_lines.Given as goal

abbrev pub invariant-loop-line : goal.invariant-loop-line
invariant-loop-line l =
    l.reported.items ++ remarks_from l.accounts l.kept l.start (drop l.line-index l.lines) ≡ remarks_from l.accounts l.kept 0 l.lines
