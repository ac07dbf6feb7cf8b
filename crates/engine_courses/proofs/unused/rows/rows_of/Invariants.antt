use Rattle.std.proofs.Common.{◌≡◌, map, take}
use Rattle.engine_courses.specs.Rows.{unreached}
use Rattle.engine_courses.proofs.unused.rows.rows_of.Given as goal

abbrev pub invariant-loop-rule : goal.invariant-loop-rule
invariant-loop-rule l = l.rows.items ≡ map unreached (take l.rule-index l.rules)
