use Rattle.std.proofs.Common.{rules, ◌≡◌, ◌+◌, ◌++◌, ◌∷◌, [], take, false}
use Rattle.device_core.specs.Runs.{complete_runs}
use Rattle.engine_sessions.specs.Answers.{number_after}
use Rattle.engine_sessions.proofs.KnownLemmas.{rest_after}
use Rattle.engine_sessions.proofs.AnswerLemmas.{counted_counted}
use Rattle.engine_sessions.proofs.Failing.{block_refused, split_fails}
use Rattle.engine_sessions.proofs.session.Session.take.Goals as goal

pub invariant_of-self : goal.invariant_of-self
invariant_of-self g c = λ _.
    let taken = c.in-Ok.ensures.ok in
    let going : c.self.inside.ended ≡ false = search rules in
    record { proceeds = taken.proceeds.1; pending = rest_after (c.self.inside.splitter.pending ++ take c.in-Ok.taken.used c.args.piece.now) c.take.new.self.pending taken.pending taken.pending_fits; counts = (c.self.invariant going).counts }

pub invariant_of-self-in-Ok-answer_to : goal.invariant_of-self-in-Ok-answer_to
invariant_of-self-in-Ok-answer_to g c = λ _.
    let taken = c.in-Ok.ensures.ok in
    record { proceeds = taken.proceeds.1; pending = rest_after (c.self.inside.splitter.pending ++ take c.in-Ok.taken.used c.args.piece.now) c.take.new.self.pending taken.pending taken.pending_fits; counts = rw c.saturating_add-number.ensures (counted_counted (c.self.inside.answered + 1)) }

pub returns-in-Err-answer_to-clause-err : goal.returns-in-Err-answer_to-clause-err
returns-in-Err-answer_to-clause-err g c =
    let number : c.saturating_add-number.result ≡ number_after c.args.self.now.answered = search rules in
    let found : complete_runs (c.args.self.now.pending ++ take c.in-Ok.taken.used c.args.piece.now) ≡ c.block-block.result.now ∷ [] = search rules in
    block_refused c.in-Err-answer_to.fault _ _ c.args.piece.now c.block-block.result.now c.in-Ok.taken.used found (rw number at c.in-Err-answer_to.ensures.err) (search rules) (search rules)

pub returns-in-Err-clause-err : goal.returns-in-Err-clause-err
returns-in-Err-clause-err g c =
    let number : c.saturating_add-number.result ≡ number_after c.args.self.now.answered = search rules in
    let pending : c.self.inside.splitter.pending ≡ c.args.self.now.pending = search rules in
    let going : c.self.inside.splitter.ended ≡ false = search rules in
    split_fails c.in-Err.fault c.split_refused.result _ _ c.args.piece.now c.self.inside.splitter c.take.new.self (rw number at c.split_refused.ensures) c.in-Err.ensures.err pending going (search rules) (search rules)
