use Rattle.std.proofs.Common.{◌≡◌, ◌++◌}
use Rattle.builtin_path.proofs.way.proceeding.Given as goal

abbrev pub invariant-loop-other : goal.invariant-loop-other
invariant-loop-other l = l.members.items ≡ l.initial.members.items ++ l.yielded
