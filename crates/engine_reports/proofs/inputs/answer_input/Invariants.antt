use Rattle.engine_reports.specs.LookupOutcomes.{answer_to}
use Rattle.engine_reports.proofs.InputLemmas.{AfterTurns}
use Rattle.engine_reports.proofs.inputs.answer_input.Given as goal

abbrev pub invariant-loop-made : goal.invariant-loop-made
invariant-loop-made g l =
    AfterTurns (answer_to l.sources (g.L.Lookup.entries l.database)) l._made l.held (g.R.Source.shown l.initial.input) (g.R.Source.shown l.input) (g.W.Sink.shown l.initial.output) (g.W.Sink.shown l.output)
