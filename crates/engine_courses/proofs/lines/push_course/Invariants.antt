use Rattle.std.proofs.Common.{◌≡◌, ◌++◌, take}
use Rattle.engine_courses.specs.WhyLines.{rule_lines}
use Rattle.engine_courses.proofs.lines.push_course.Given as goal

abbrev pub invariant-loop-text : goal.invariant-loop-text
invariant-loop-text l = l.lines.items ≡ l.initial.lines.items ++ rule_lines (l.rule, take l.text-index l.texts)
