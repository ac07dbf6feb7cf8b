use Rattle.std.proofs.lemmas.Result.{err_from_is_err_and}
use Rattle.engine_sessions.proofs.Breaks.{breaks-at}
use Rattle.engine_sessions.proofs.writing.write_each.Goals as goal

pub returns-in_err-write_all-clause-part : goal.returns-in_err-write_all-clause-part
returns-in_err-write_all-clause-part g c =
    let p = err_from_is_err_and c.from_residual.result c.from_residual.ensures.1 in
    rw p.1 (breaks-at (λ t. t.now) c.args.texts.now c.loop-next.next-index _ _ _ _ c.loop-next-test.true c.loop-next.invariant c.in_err-write_all.ensures.part)
