use Rattle.std.proofs.Common.{length, ◌-◌, ◌≤◌, take}
use Rattle.engine_sessions.specs.Sinks.{Takes}
use Rattle.engine_sessions.proofs.writing.write_all.Given as goal

abbrev pub invariant-loop-done : goal.invariant-loop-done
invariant-loop-done g l = record {
  within : l.done ≤ length l.text;
  so_far : Takes (g.W.Sink.shown l.initial.sink) (take l.done l.text) (g.W.Sink.shown l.sink);
}

abbrev pub decreases-loop-done : goal.decreases-loop-done
decreases-loop-done g l = length l.text - l.done
