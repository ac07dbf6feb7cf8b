use Rattle.std.proofs.Common.{◌≡◌, length}
use Rattle.rule_file_lints.specs.Steps.{names_in, names_over}
use Rattle.rule_file_lints.proofs.file_lints.FileNames.of_lines.Given as goal

abbrev pub invariant-loop-names : goal.invariant-loop-names
invariant-loop-names l = names_over l.names l.rest ≡ names_in l.name l.fn.lines

abbrev pub decreases-loop-names : goal.decreases-loop-names
decreases-loop-names l = length l.rest
