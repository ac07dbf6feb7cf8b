use Rattle.std.proofs.Common.{rules, true, take}
use Rattle.std.proofs.lemmas.Result.{err_from_is_err_and}
use Rattle.engine_sessions.specs.Turns.{Reads}
use Rattle.lsp_server.specs.AnyServer.{acting}
use Rattle.lsp_server.specs.Taking.{situation}
use Rattle.lsp_server.proofs.InputLemmas.{turn_fails}
use Rattle.lsp_server.proofs.turning.turn.Goals as goal

pub returns-in_err-take_piece-in-Ok-clause-err : goal.returns-in_err-take_piece-in-Ok-clause-err
returns-in_err-take_piece-in-Ok-clause-err g c =
    let reads : Reads true (g.R.Source.shown c.args.input.now) (take c.in-Ok.len c.read.new.into) (g.R.Source.shown c.read.new.self) = search rules in
    let p = err_from_is_err_and c.from_residual.result c.from_residual.ensures.1 in
    rw (p.1, p.2) (turn_fails c.in_err-take_piece-in-Ok.field-0.0 (situation c.args.frames.now (acting g.S.Replying.replies g.S.Replying.after c.args.server.now)) _ _ _ _ (take c.in-Ok.len c.read.new.into) reads
    c.in_err-take_piece-in-Ok.ensures.err)
