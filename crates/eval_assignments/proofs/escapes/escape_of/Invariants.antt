use Rattle.std.proofs.Common.{◌≡◌, drop}
use Rattle.std.specs.List.{fold}
use Rattle.eval_assignments.specs.Escapes.{escape_after, escape_of}
use Rattle.eval_assignments.proofs.escapes.escape_of.Given as goal

abbrev pub invariant-loop-assignment : goal.invariant-loop-assignment
invariant-loop-assignment l = fold (λ e a. escape_after e a.change) l.escape (drop l.assignment-index l.sets) ≡ escape_of l.fn.sets
