use Rattle.std.proofs.Common.{◌≡◌, ◌++◌, drop}
use Rattle.rule_file_lints.specs.Steps.{nothing_above}
use Rattle.engine_checks.specs.Told.{lines_told}
use Rattle.engine_checks.proofs.told_lines.tell_lines.Given as goal

abbrev pub invariant-loop-is_silent : goal.invariant-loop-is_silent
invariant-loop-is_silent l =
    l.text.items ++ lines_told l.asked l.name l.names l.above (drop l.is_silent-index l.silent) l.rest ≡ l.initial.text.items ++ lines_told l.asked l.name l.names nothing_above l.silent l.fn.lines
