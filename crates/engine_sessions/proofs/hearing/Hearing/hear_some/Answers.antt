use Rattle.std.proofs.Common.{refl, ◌++◌, take}
use Rattle.engine_sessions.proofs.KnownLemmas.{rest_after}
use Rattle.engine_sessions.proofs.ToldText.{told_by}
use Rattle.engine_sessions.proofs.hearing.Hearing.hear_some.Goals as goal

pub invariant_of-self : goal.invariant_of-self
invariant_of-self g c =
    let t = c.in-Ok.ensures.ok in
    let r = rest_after (c.args.self.now.splitter.pending ++ take c.in-Ok.taken.used c.args.piece.now) c.take.new.self.pending t.pending t.pending_fits in
    record { none_complete = r.none; is_rest = r.rest }

pub returns-in_ok-count_if_complete-in-Ok-clause-told : goal.returns-in_ok-count_if_complete-in-Ok-clause-told
returns-in_ok-count_if_complete-in-Ok-clause-told g c =
    told_by c.args.self.now.profile (g.T.Tally.says c.args.self.now.tally) (g.T.Tally.says c.count_if_complete.new.tally) c.args.self.now.splitter c.take.new.self c.args.piece.now c.in-Ok.taken c.in-Ok.taken.whole c.block-block.result.now
    c.in-Ok.ensures.ok refl c.block-block.ensures c.in_ok-count_if_complete-in-Ok.ensures
