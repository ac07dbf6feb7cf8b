use Rattle.std.proofs.Common.{arith, ◌≡◌, ℕ, ◌≤◌, true, false, subst}
use Rattle.std.proofs.lemmas.Bool.{not-false, not-true}
use Rattle.std.proofs.lemmas.Result.{err_from_is_err_and}
use Rattle.engine_sessions.specs.Sessions.{answer_of}
use Rattle.engine_sessions.specs.Turns.{TurnFailsBy}
use Rattle.engine_sessions.specs.Holding.{TurnsTold}
use Rattle.engine_sessions.specs.Inputs.{most_turns}
use Rattle.engine_sessions.specs.Tallies.{IsTold}
use Rattle.engine_sessions.proofs.TurnLemmas.{at}
use Rattle.engine_sessions.proofs.Heard.{Heard, heard_at_start, heard_failed, heard_finished, heard_more, heard_used_up}
use Rattle.engine_sessions.proofs.inputs.make_turns.Goals as goal

pub returns-in_err-outcome : goal.returns-in_err-outcome
returns-in_err-outcome g c =
    let s = c.loop-made.invariant in
    let turn = subst (λ a. TurnFailsBy (answer_of g.A.Answering.answers a) c.in_err-outcome.field-0.0 (at c.loop-made.session (g.R.Source.shown c.loop-made.input) (g.W.Sink.shown c.loop-made.output)) (at c.turn_told.new.session (g.R.Source.shown c.turn_told.new.input) (g.W.Sink.shown c.turn_told.new.output))) s.finding.served.answering c.in_err-outcome.ensures.err in
    let p = err_from_is_err_and c.from_residual.result c.from_residual.ensures.1 in
    rw (p.1, p.2) (heard_failed (answer_of g.A.Answering.answers c.args.session.now.answering) c.in_err-outcome.field-0.0 c.args.session.now c.loop-made.session c.turn_told.new.session _ _ _ _ _ _ c.loop-made._made c.loop-made.finds
    (g.L.Listener.says c.args.listener.now) (g.L.Listener.says c.loop-made.listener) (g.L.Listener.says c.turn_told.new.listener) s turn)

pub loop-made-init : goal.loop-made-init
loop-made-init g c = heard_at_start _ _ _ _ _ c.requires

pub returns-then-not-outcome : goal.returns-then-not-outcome
returns-then-not-outcome g c =
    let s = c.loop-made.invariant in
    let ok = subst (λ m. TurnsTold (answer_of g.A.Answering.answers c.loop-made.session.answering) (IsTold (g.L.Listener.says c.loop-made.listener) (g.L.Listener.says c.turn_told.new.listener)) m c.in_ok-outcome.outcome.finds (at c.loop-made.session (g.R.Source.shown c.loop-made.input) (g.W.Sink.shown c.loop-made.output)) (at c.turn_told.new.session (g.R.Source.shown c.turn_told.new.input) (g.W.Sink.shown c.turn_told.new.output)))
    (not-true c.in_ok-outcome.outcome.more c.if-not-outcome.true) c.in_ok-outcome.ensures.ok in
    let turn = subst (λ a. TurnsTold (answer_of g.A.Answering.answers a) (IsTold (g.L.Listener.says c.loop-made.listener) (g.L.Listener.says c.turn_told.new.listener)) false c.in_ok-outcome.outcome.finds (at c.loop-made.session (g.R.Source.shown c.loop-made.input) (g.W.Sink.shown c.loop-made.output)) (at c.turn_told.new.session (g.R.Source.shown c.turn_told.new.input) (g.W.Sink.shown c.turn_told.new.output))) s.finding.served.answering ok in
    heard_finished (answer_of g.A.Answering.answers c.args.session.now.answering) c.args.session.now c.loop-made.session c.turn_told.new.session _ _ _ _ _ _ c.loop-made._made c.loop-made.finds c.in_ok-outcome.outcome.finds c.has_answered_none-no_block.result
    (g.L.Listener.says c.args.listener.now) (g.L.Listener.says c.loop-made.listener) (g.L.Listener.says c.turn_told.new.listener) s turn c.has_answered_none-no_block.ensures

pub loop-made-preserved : goal.loop-made-preserved
loop-made-preserved g c =
    let s = c.loop-made.invariant in
    let ok = subst (λ m. TurnsTold (answer_of g.A.Answering.answers c.loop-made.session.answering) (IsTold (g.L.Listener.says c.loop-made.listener) (g.L.Listener.says c.turn_told.new.listener)) m c.in_ok-outcome.outcome.finds (at c.loop-made.session (g.R.Source.shown c.loop-made.input) (g.W.Sink.shown c.loop-made.output)) (at c.turn_told.new.session (g.R.Source.shown c.turn_told.new.input) (g.W.Sink.shown c.turn_told.new.output)))
    (not-false c.in_ok-outcome.outcome.more c.if-not-outcome.false) c.in_ok-outcome.ensures.ok in
    let turn = subst (λ a. TurnsTold (answer_of g.A.Answering.answers a) (IsTold (g.L.Listener.says c.loop-made.listener) (g.L.Listener.says c.turn_told.new.listener)) true c.in_ok-outcome.outcome.finds (at c.loop-made.session (g.R.Source.shown c.loop-made.input) (g.W.Sink.shown c.loop-made.output)) (at c.turn_told.new.session (g.R.Source.shown c.turn_told.new.input) (g.W.Sink.shown c.turn_told.new.output))) s.finding.served.answering ok in
    heard_more (answer_of g.A.Answering.answers c.args.session.now.answering) c.args.session.now c.loop-made.session c.turn_told.new.session _ _ _ _ _ _ c.loop-made._made c.loop-made.finds c.in_ok-outcome.outcome.finds
    (g.L.Listener.says c.args.listener.now) (g.L.Listener.says c.loop-made.listener) (g.L.Listener.says c.turn_told.new.listener) s turn c.turn_told.ensures.fits

pub returns : goal.returns
returns g c =
    let s = c.loop-made.invariant in
    let all : c.loop-made._made ≡ most_turns = all_made c.loop-made._made c.loop-made.auto._made-end c.loop-made-test.false in
    heard_used_up (answer_of g.A.Answering.answers c.args.session.now.answering) c.args.session.now c.loop-made.session _ _ _ _ c.loop-made.finds (g.L.Listener.says c.args.listener.now) (g.L.Listener.says c.loop-made.listener)
    (subst (λ n. Heard (answer_of g.A.Answering.answers c.args.session.now.answering) c.args.session.now (g.R.Source.shown c.args.input.now) (g.R.Source.shown c.loop-made.input) (g.W.Sink.shown c.args.output.now) (g.W.Sink.shown c.loop-made.output) c.loop-made.session n c.loop-made.finds (g.L.Listener.says c.args.listener.now) (g.L.Listener.says c.loop-made.listener)) all s)
  where
    all_made : (n : ℕ) → n ≤ 281474976710656 → 281474976710656 ≤ n → n ≡ most_turns
    all_made n h k = omega (arith, h, k)
