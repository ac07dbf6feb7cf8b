use Rattle.std.proofs.Common.{take, flat_map}
use Rattle.engine_sessions.specs.Sinks.{Takes}
use Rattle.engine_sessions.proofs.writing.write_each.Given as goal

abbrev pub invariant-loop-next : goal.invariant-loop-next
invariant-loop-next g l = Takes (g.W.Sink.shown l.initial.sink) (flat_map (λ t. t.now) (take l.next-index l.texts)) (g.W.Sink.shown l.sink)
