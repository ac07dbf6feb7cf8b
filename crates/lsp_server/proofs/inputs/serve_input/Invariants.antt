use Rattle.lsp_server.specs.AnyServer.{acting}
use Rattle.lsp_server.specs.Taking.{situation}
use Rattle.lsp_server.proofs.InputLemmas.{AfterTurns}
use Rattle.lsp_server.proofs.inputs.serve_input.Given as goal

abbrev pub invariant-loop-made : goal.invariant-loop-made
invariant-loop-made g l =
    AfterTurns (acting g.S.Replying.replies g.S.Replying.after l.initial.server) l._made (situation l.frames (acting g.S.Replying.replies g.S.Replying.after l.server))
    (g.R.Source.shown l.initial.input) (g.R.Source.shown l.input) (g.W.Sink.shown l.initial.output) (g.W.Sink.shown l.output)
