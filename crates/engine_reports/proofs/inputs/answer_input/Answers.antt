use Rattle.std.proofs.Common.{arith, ◌≡◌, ℕ, ◌≤◌, true, false, subst}
use Rattle.std.proofs.lemmas.Result.{err_from_is_err_and}
use Rattle.engine_sessions.specs.Inputs.{most_turns}
use Rattle.engine_sessions.proofs.ReadPieces.{shown}
use Rattle.engine_reports.specs.Inputs.{Turns}
use Rattle.engine_reports.specs.LookupOutcomes.{answer_to}
use Rattle.engine_reports.proofs.InputLemmas.{AfterTurns, failed, finished, turns_at_start, turns_more, turns_open, used_up}
use Rattle.engine_reports.proofs.inputs.answer_input.Goals as goal

pub loop-made-init : goal.loop-made-init
loop-made-init g c = turns_at_start _ _ _ _ c.new-held.ensures

pub turn-requires-clause-open : goal.turn-requires-clause-open
turn-requires-clause-open g c = turns_open _ _ _ _ _ _ _ c.loop-made.invariant

pub turn-requires-clause-few : goal.turn-requires-clause-few
turn-requires-clause-few g c = omega (arith, c.loop-made.invariant.few, c.loop-made-test.true)

pub returns-in_err-more : goal.returns-in_err-more
returns-in_err-more g c =
    let p = err_from_is_err_and c.from_residual.result c.from_residual.ensures.1 in
    rw (p.1, p.2) (failed _ c.in_err-more.field-0.0 _ _ _ _ _ _ _ _ c.loop-made.invariant c.in_err-more.ensures.err)

pub returns-then-not-more : goal.returns-then-not-more
returns-then-not-more g c =
    let answer = answer_to c.args.sources (g.L.Lookup.entries c.args.database.now) in
    let ends = subst (λ m. Turns answer m c.loop-made.held c.turn.new.held (shown (g.R.Source.shown c.loop-made.input) (g.W.Sink.shown c.loop-made.output)) (shown (g.R.Source.shown c.turn.new.input) (g.W.Sink.shown c.turn.new.output)))
    c.if-not-more.true c.in_ok-more.ensures.ok in
    finished answer _ _ _ _ _ _ _ _ c.loop-made.invariant ends

pub loop-made-preserved : goal.loop-made-preserved
loop-made-preserved g c =
    let answer = answer_to c.args.sources (g.L.Lookup.entries c.args.database.now) in
    let advances = subst (λ m. Turns answer m c.loop-made.held c.turn.new.held (shown (g.R.Source.shown c.loop-made.input) (g.W.Sink.shown c.loop-made.output)) (shown (g.R.Source.shown c.turn.new.input) (g.W.Sink.shown c.turn.new.output)))
    c.if-not-more.false c.in_ok-more.ensures.ok in
    turns_more answer _ _ _ _ _ _ _ _ _ c.loop-made.invariant advances

pub returns : goal.returns
returns g c =
    let all : c.loop-made._made ≡ most_turns = all_made c.loop-made._made c.loop-made.auto._made-end c.loop-made-test.false in
    let answer = answer_to c.args.sources (g.L.Lookup.entries c.args.database.now) in
    used_up answer _ _ _ _ _ (subst (λ n. AfterTurns answer n c.loop-made.held (g.R.Source.shown c.args.input.now) (g.R.Source.shown c.loop-made.input) (g.W.Sink.shown c.args.output.now) (g.W.Sink.shown c.loop-made.output)) all c.loop-made.invariant)
  where
    all_made : (n : ℕ) → n ≤ 281474976710656 → 281474976710656 ≤ n → n ≡ most_turns
    all_made n h k = omega (arith, h, k)
