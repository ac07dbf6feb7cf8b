use Rattle.std.proofs.Common.{◌≡◌, ◌++◌, List}
use Rattle.rule_types.specs.declared.jumps.Landing.{Landing}
use Rattle.rule_core.specs.Rules.{Reading}
use Rattle.rule_places.specs.Files.{placed_from}
use Rattle.rule_places.proofs.file_findings.place_lines.Given as goal

abbrev pub invariant-loop-line : goal.invariant-loop-line
invariant-loop-line l = (left : List (Reading × Landing)) → l.found.items ++ placed_from l.kept l.start left ≡ placed_from l.kept 0 (l.yielded ++ left)
