use Rattle.std.proofs.Common.{◌≡◌, ◌+◌, ◌-◌, ◌≤◌, ◌++◌, length}
use Rattle.device_core.specs.Filling.{taken}
use Rattle.device_core.specs.declared.filling.Stop.TheVariants.{Used}
use Rattle.device_core.proofs.Steps.{Filling}
use Rattle.device_core.proofs.filling.scan.Given as goal

abbrev pub invariant-loop-end : goal.invariant-loop-end
invariant-loop-end l = record {
  filled : Filling l.pending l.piece l.end (l.pending ++ taken l.piece l.start l.end) l.at_start;
  after : l.start ≤ l.end;
  fits : length l.pending + (l.end - l.start) ≤ l.room;
  goes : l.stop ≡ Used;
}

abbrev pub decreases-loop-end : goal.decreases-loop-end
decreases-loop-end l = length l.piece - l.end
