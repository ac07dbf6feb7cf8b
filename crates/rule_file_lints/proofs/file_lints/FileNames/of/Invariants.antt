use Rattle.std.proofs.Common.{◌≡◌, drop}
use Rattle.rule_file_lints.specs.Steps.{names_in, names_over}
use Rattle.rule_file_lints.proofs.file_lints.FileNames.of.Given as goal

abbrev pub invariant-loop-line : goal.invariant-loop-line
invariant-loop-line l = names_over l.names (drop l.line-index l.lines) ≡ names_in l.name l.lines
