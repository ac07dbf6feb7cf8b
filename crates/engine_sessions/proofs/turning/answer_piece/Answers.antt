use Rattle.std.proofs.Common.{arith, subst, take, drop, true}
use Rattle.std.proofs.lemmas.Grind.{common_steps}
use Rattle.std.proofs.lemmas.List.{take-append-drop}
use Rattle.engine_sessions.specs.Sessions.{SessionTakes, answer_of}
use Rattle.engine_sessions.proofs.TurnLemmas.{ended_by, proceeding, sent-fails, sent-breaks, answering_is, rest_of_slice, part_more}
use Rattle.engine_sessions.proofs.FindingLemmas.{finding-more, sent_nothing}
use Rattle.engine_sessions.proofs.turning.answer_piece.Goals as goal

pub returns-in-Err-clause-err : goal.returns-in-Err-clause-err
returns-in-Err-clause-err g c =
    let sent = c.loop-used.invariant.sending.sent in
    rw take-append-drop at (sent-fails (answer_of g.A.Answering.answers c.args.session.now.answering) true c.in-Err.fault c.args.session.now c.loop-used.session c.take.new.self (take c.loop-used.used c.args.piece.now) (drop c.loop-used.used c.args.piece.now) _ _ sent (rw rest_of_slice at c.in-Err.ensures.err))

pub returns-in-Err-send-clause-err : goal.returns-in-Err-send-clause-err
returns-in-Err-send-clause-err g c =
    let sent = c.loop-used.invariant.sending.sent in
    let takes = subst (λ answering. SessionTakes (answer_of g.A.Answering.answers answering) c.loop-used.session (drop c.loop-used.used c.args.piece.now) c.in-Ok.step c.take.new.self) (answering_is _ _ _ _ _ _ sent) (rw rest_of_slice at c.in-Ok.ensures.ok) in
    rw take-append-drop at (sent-breaks (answer_of g.A.Answering.answers c.args.session.now.answering) c.args.session.now c.loop-used.session c.take.new.self (take c.loop-used.used c.args.piece.now) (drop c.loop-used.used c.args.piece.now) c.in-Ok.step _ _ _ sent takes c.in-Err-send.ensures.err)

pub loop-used-preserved-in-Ok-send : goal.loop-used-preserved-in-Ok-send
loop-used-preserved-in-Ok-send g c =
    let sent = c.loop-used.invariant.sending.sent in
    let takes = subst (λ answering. SessionTakes (answer_of g.A.Answering.answers answering) c.loop-used.session (drop c.loop-used.used c.args.piece.now) c.in-Ok.step c.take.new.self) (answering_is _ _ _ _ _ _ sent) (rw rest_of_slice at c.in-Ok.ensures.ok) in
    record {
      within = grind (arith, common_steps);
      sending = rw part_more at (finding-more (answer_of g.A.Answering.answers c.args.session.now.answering) c.args.session.now c.loop-used.session c.take.new.self (take c.loop-used.used c.args.piece.now) (drop c.loop-used.used c.args.piece.now) c.in-Ok.step _ _ _ c.loop-used.finds c.says_something-finds.result c.loop-used.invariant.sending takes c.in-Ok-send.ensures.ok c.says_something-finds.ensures);
    }

pub loop-used-preserved : goal.loop-used-preserved
loop-used-preserved g c =
    let sent = c.loop-used.invariant.sending.sent in
    let takes = subst (λ answering. SessionTakes (answer_of g.A.Answering.answers answering) c.loop-used.session (drop c.loop-used.used c.args.piece.now) c.in-Ok.step c.take.new.self) (answering_is _ _ _ _ _ _ sent) (rw rest_of_slice at c.in-Ok.ensures.ok) in
    record {
      within = grind (arith, common_steps);
      sending = rw part_more at (finding-more (answer_of g.A.Answering.answers c.args.session.now.answering) c.args.session.now c.loop-used.session c.take.new.self (take c.loop-used.used c.args.piece.now) (drop c.loop-used.used c.args.piece.now) c.in-Ok.step _ _ _ c.loop-used.finds c.says_something-finds.result c.loop-used.invariant.sending takes c.in-Ok-send.ensures.ok c.says_something-finds.ensures);
    }

pub returns-in-Err-clause-ended : goal.returns-in-Err-clause-ended
returns-in-Err-clause-ended g c =
    let sent = c.loop-used.invariant.sending.sent in
    ended_by c.in-Err.fault c.args.session.now c.loop-used.session c.take.new.self _ (answering_is _ _ _ _ _ _ sent) (proceeding _ _ _ _ _ _ sent) c.in-Err.ensures.err

pub loop-used-init : goal.loop-used-init
loop-used-init g c = record { within = omega arith; sending = sent_nothing _ _ _ c.requires }
