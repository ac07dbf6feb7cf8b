use Rattle.std.proofs.Common.{◌≡◌, ◌++◌, drop}
use Rattle.rule_file_lints.specs.Steps.{lints_over, nothing_above}
use Rattle.rule_file_lints.proofs.file_lints.lints_by_names.Given as goal

abbrev pub invariant-loop-line : goal.invariant-loop-line
invariant-loop-line l = l.found.items ++ lints_over l.profile l.names l.kept l.above l.start (drop l.line-index l.lines) ≡ lints_over l.profile l.names l.kept nothing_above 0 l.lines
