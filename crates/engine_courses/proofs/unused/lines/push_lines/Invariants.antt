use Rattle.std.proofs.Common.{◌≡◌, ◌++◌, map, take}
use Rattle.engine_courses.specs.Unused.{lines_by}
use Rattle.engine_courses.proofs.unused.lines.push_lines.Given as goal

abbrev pub invariant-loop-place : goal.invariant-loop-place
invariant-loop-place l = l.text.items ≡ l.initial.text.items ++ lines_by (map (λ n. n.now) l.names) (take l.place l.rules) l.rows
