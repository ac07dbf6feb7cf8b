use Rattle.std.proofs.lemmas.Result.{err_from_is_err_and}
use Rattle.engine_reports.proofs.TakingLemmas.{answers-none, few_taken, open_is, piece_more, piece_stops}
use Rattle.engine_reports.proofs.turning.answer_piece.Goals as goal

pub loop-byte-init : goal.loop-byte-init
loop-byte-init g c = answers-none _ _ _ c.requires.open

pub take-requires-clause-open : goal.take-requires-clause-open
take-requires-clause-open g c = open_is _ _ _ _ _ _ c.loop-byte.invariant

pub take-requires-clause-few : goal.take-requires-clause-few
take-requires-clause-few g c = few_taken _ _ _ c.args.piece.now c.loop-byte.byte-index _ _ _ c.requires.open c.loop-byte-test.true c.requires.few c.loop-byte.invariant

pub loop-byte-preserved : goal.loop-byte-preserved
loop-byte-preserved g c = piece_more _ _ _ _ c.args.piece.now c.loop-byte.byte-index _ _ _ c.loop-byte-test.true c.loop-byte.invariant c.in_ok-take.ensures.ok

pub returns-in_err-take-clause-err : goal.returns-in_err-take-clause-err
returns-in_err-take-clause-err g c =
    let p = err_from_is_err_and c.from_residual.result c.from_residual.ensures.1 in
    rw (p.1, p.2) (piece_stops _ c.in_err-take.field-0.0 _ _ c.args.piece.now c.loop-byte.byte-index _ _ _ c.loop-byte-test.true c.loop-byte.invariant c.in_err-take.ensures.err)
