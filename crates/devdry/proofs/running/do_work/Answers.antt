use Rattle.std.proofs.Common.{◌≡◌, subst, sym}
use Rattle.engine_core.specs.Runs.{RunsOver}
use Rattle.engine_core.specs.Comparing.{ComparesOver}
use Rattle.engine_sessions.specs.Streams.{Streams}
use Rattle.devdry.specs.Runs.{Does}
use Rattle.devdry.proofs.running.do_work.Goals as goal

pub returns-in-Answer : goal.returns-in-Answer
returns-in-Answer g c =
    let before : Streams = record {
      input = g.I.Source.shown c.args.input.now;
      out = g.W.Sink.shown c.args.output.now;
      err = g.E.Sink.shown c.args.error.now;
    } in
    let now : Streams = record {
      input = g.I.Source.shown c.serve.new.input;
      out = g.W.Sink.shown c.serve.new.output;
      err = g.E.Sink.shown c.serve.new.error;
    } in
    subst (λ w. Does w c.serve.result before now) (sym c.in-Answer.is)
    (subst (λ index. RunsOver c.in-Answer.inputs.line c.in-Answer.inputs.files.items c.in-Answer.inputs.found index c.serve.result before now)
    c.bytes_of-index.ensures c.serve.ensures.runs)

pub returns-in-Compare : goal.returns-in-Compare
returns-in-Compare g c =
    let before : Streams = record {
      input = g.I.Source.shown c.args.input.now;
      out = g.W.Sink.shown c.args.output.now;
      err = g.E.Sink.shown c.args.error.now;
    } in
    let now : Streams = record {
      input = g.I.Source.shown c.serve_compare.new.input;
      out = g.W.Sink.shown c.serve_compare.new.output;
      err = g.E.Sink.shown c.serve_compare.new.error;
    } in
    let old = c.in-Compare.old in
    let new = c.in-Compare.new in
    subst (λ w. Does w c.serve_compare.result before now) (sym c.in-Compare.is)
    (subst (λ index. ComparesOver old.line new.line old.files.items new.files.items old.found new.found index c.serve_compare.result before now)
    c.bytes_of-index-in-Compare.ensures c.serve_compare.ensures)
