use Rattle.std.proofs.Common.{◌≡◌, ℕ, ◌≤◌, ap, subst, arith}
use Rattle.std.proofs.lemmas.Result.{err_from_is_err_and}
use Rattle.engine_sessions.specs.Inputs.{most_turns}
use Rattle.lsp_server.specs.Held.{Held}
use Rattle.lsp_server.specs.AnyServer.{acting}
use Rattle.lsp_server.specs.Taking.{situation}
use Rattle.lsp_server.proofs.InputLemmas.{AfterTurns, ended, failed, gone_on, turns_at_start, used_up}
use Rattle.lsp_server.proofs.inputs.serve_input.Goals as goal

pub loop-made-init : goal.loop-made-init
loop-made-init g c =
    turns_at_start (acting g.S.Replying.replies g.S.Replying.after c.args.server.now) (situation c.new-frames.result (acting g.S.Replying.replies g.S.Replying.after c.args.server.now))
    (g.R.Source.shown c.args.input.now) (g.W.Sink.shown c.args.output.now) (ap (λ (h : Held). situation h (acting g.S.Replying.replies g.S.Replying.after c.args.server.now)) c.new-frames.ensures)

pub returns-in_err-next : goal.returns-in_err-next
returns-in_err-next g c =
    let p = err_from_is_err_and c.from_residual.result c.from_residual.ensures.1 in
    rw (p.1, p.2) (failed (acting g.S.Replying.replies g.S.Replying.after c.args.server.now) c.loop-made._made (situation c.loop-made.frames (acting g.S.Replying.replies g.S.Replying.after c.loop-made.server))
    (g.R.Source.shown c.args.input.now) (g.R.Source.shown c.loop-made.input) (g.R.Source.shown c.turn.new.input) (g.W.Sink.shown c.args.output.now) (g.W.Sink.shown c.loop-made.output) (g.W.Sink.shown c.turn.new.output)
    c.loop-made.invariant c.in_err-next.field-0.0 c.in_err-next.ensures.err)

pub returns-in-Ends : goal.returns-in-Ends
returns-in-Ends g c =
    ended (acting g.S.Replying.replies g.S.Replying.after c.args.server.now) c.loop-made._made (situation c.loop-made.frames (acting g.S.Replying.replies g.S.Replying.after c.loop-made.server))
    (g.R.Source.shown c.args.input.now) (g.R.Source.shown c.loop-made.input) (g.R.Source.shown c.turn.new.input) (g.W.Sink.shown c.args.output.now) (g.W.Sink.shown c.loop-made.output) (g.W.Sink.shown c.turn.new.output)
    c.loop-made.invariant c.in_ok-next.next c.in-Ends.exit (situation c.turn.new.frames (acting g.S.Replying.replies g.S.Replying.after c.turn.new.server)) c.in-Ends.is c.in_ok-next.ensures.ok

pub loop-made-preserved : goal.loop-made-preserved
loop-made-preserved g c =
    gone_on (acting g.S.Replying.replies g.S.Replying.after c.args.server.now) c.loop-made._made (situation c.loop-made.frames (acting g.S.Replying.replies g.S.Replying.after c.loop-made.server))
    (g.R.Source.shown c.args.input.now) (g.R.Source.shown c.loop-made.input) (g.R.Source.shown c.turn.new.input) (g.W.Sink.shown c.args.output.now) (g.W.Sink.shown c.loop-made.output) (g.W.Sink.shown c.turn.new.output)
    c.loop-made.invariant c.in_ok-next.next (situation c.turn.new.frames (acting g.S.Replying.replies g.S.Replying.after c.turn.new.server)) c.in_default.not-Ends c.in_ok-next.ensures.ok

pub returns : goal.returns
returns g c =
    let all : c.loop-made._made ≡ most_turns = all_made c.loop-made._made c.loop-made.auto._made-end c.loop-made-test.false in
    let server = (acting g.S.Replying.replies g.S.Replying.after c.args.server.now) in
    used_up server (situation c.loop-made.frames (acting g.S.Replying.replies g.S.Replying.after c.loop-made.server))
    (g.R.Source.shown c.args.input.now) (g.R.Source.shown c.loop-made.input) (g.W.Sink.shown c.args.output.now) (g.W.Sink.shown c.loop-made.output)
    (subst (λ n. AfterTurns server n (situation c.loop-made.frames (acting g.S.Replying.replies g.S.Replying.after c.loop-made.server))
    (g.R.Source.shown c.args.input.now) (g.R.Source.shown c.loop-made.input) (g.W.Sink.shown c.args.output.now) (g.W.Sink.shown c.loop-made.output)) all c.loop-made.invariant)
  where
    all_made : (n : ℕ) → n ≤ 281474976710656 → 281474976710656 ≤ n → n ≡ most_turns
    all_made n h k = omega (arith, h, k)
