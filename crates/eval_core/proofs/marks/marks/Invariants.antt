use Rattle.std.proofs.Common.{◌≡◌, drop, fold}
use Rattle.eval_core.specs.Marks.{marks, with_device}
use Rattle.eval_core.proofs.marks.marks.Given as goal

abbrev pub invariant-loop-parent : goal.invariant-loop-parent
invariant-loop-parent l = fold with_device l.found (drop l.parent-index l.parent-items) ≡ marks l.event
