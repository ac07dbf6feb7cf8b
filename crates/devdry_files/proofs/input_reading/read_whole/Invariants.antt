use Rattle.devdry_files.proofs.Whole.{AfterReads}
use Rattle.devdry_files.proofs.input_reading.read_whole.Given as goal

abbrev pub invariant-loop-made : goal.invariant-loop-made
invariant-loop-made g l = AfterReads l._made l.text.items (g.I.Source.shown l.initial.input) (g.I.Source.shown l.input)
