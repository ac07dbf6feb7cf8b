use Rattle.std.proofs.Common.{rules, true, false, [], take}
use Rattle.std.proofs.lemmas.Result.{err_from_is_err_and}
use Rattle.engine_sessions.specs.Turns.{Reads}
use Rattle.engine_reports.specs.LookupOutcomes.{answer_to}
use Rattle.engine_reports.proofs.InputLemmas.{end_fails, turn_fails}
use Rattle.engine_reports.proofs.turning.turn.Goals as goal

pub returns-in_err-answer_piece-in-Ok-clause-err : goal.returns-in_err-answer_piece-in-Ok-clause-err
returns-in_err-answer_piece-in-Ok-clause-err g c =
    let reads : Reads true (g.R.Source.shown c.args.input.now) (take c.in-Ok.len c.read.new.into) (g.R.Source.shown c.read.new.self) = search rules in
    let p = err_from_is_err_and c.from_residual-in_err-answer_piece-in-Ok.result c.from_residual-in_err-answer_piece-in-Ok.ensures.1 in
    rw (p.1, p.2) (turn_fails (answer_to c.args.sources (g.L.Lookup.entries c.args.database.now)) c.in_err-answer_piece-in-Ok.field-0.0 c.args.held.now _ _ _ _ true (take c.in-Ok.len c.read.new.into) reads c.in_err-answer_piece-in-Ok.ensures.err)

pub returns-in_err-end-in-Ok-eq0-clause-err : goal.returns-in_err-end-in-Ok-eq0-clause-err
returns-in_err-end-in-Ok-eq0-clause-err g c =
    let reads : Reads false (g.R.Source.shown c.args.input.now) [] (g.R.Source.shown c.read.new.self) = search rules in
    let p = err_from_is_err_and c.from_residual.result c.from_residual.ensures.1 in
    rw (p.1, p.2) (end_fails (answer_to c.args.sources (g.L.Lookup.entries c.args.database.now)) c.in_err-end-in-Ok-eq0.field-0.0 c.args.held.now _ _ _ _ reads c.in_err-end-in-Ok-eq0.ensures.err)
