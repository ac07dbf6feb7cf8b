use Rattle.std.proofs.Common.{◌≡◌, ◌+◌, ◌≤◌, ◌++◌, drop}
use Rattle.engine_answers.specs.Inner.{lines_as_is, shown_count}
use Rattle.engine_answers.proofs.items.push_env_as_is.Given as goal

abbrev pub invariant-loop-place : goal.invariant-loop-place
invariant-loop-place l = record {
  lines : l.lines.items ++ lines_as_is (drop l.place l.fn.pairs) ≡ l.initial.lines.items ++ lines_as_is l.fn.pairs;
  counts : l.count + shown_count (drop l.place l.fn.pairs) ≡ shown_count l.fn.pairs;
  few : l.count ≤ l.place;
}
