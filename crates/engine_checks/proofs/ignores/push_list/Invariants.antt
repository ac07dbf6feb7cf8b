use Rattle.std.proofs.Common.{◌≡◌, ◌++◌, ◌≤◌, length}
use Rattle.engine_checks.proofs.Lists.{codes_of}
use Rattle.engine_checks.proofs.ignores.push_list.Given as goal

abbrev pub invariant-loop-code : goal.invariant-loop-code
invariant-loop-code l = record {
  reported : l.ignores.items ++ codes_of l.line l.scope l.end l.rest ≡ l.initial.ignores.items ++ codes_of l.line l.scope l.end l.fn.list;
  within : length l.rest ≤ l.end;
}

abbrev pub decreases-loop-code : goal.decreases-loop-code
decreases-loop-code l = length l.rest
