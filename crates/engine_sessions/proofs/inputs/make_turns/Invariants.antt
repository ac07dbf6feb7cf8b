use Rattle.engine_sessions.specs.Sessions.{answer_of}
use Rattle.engine_sessions.proofs.Heard.{Heard}
use Rattle.engine_sessions.proofs.inputs.make_turns.Given as goal

abbrev pub invariant-loop-made : goal.invariant-loop-made
invariant-loop-made g l =
    Heard (answer_of g.A.Answering.answers l.initial.session.answering) l.initial.session (g.R.Source.shown l.initial.input) (g.R.Source.shown l.input) (g.W.Sink.shown l.initial.output) (g.W.Sink.shown l.output) l.session l._made l.finds
    (g.L.Listener.says l.initial.listener) (g.L.Listener.says l.listener)
