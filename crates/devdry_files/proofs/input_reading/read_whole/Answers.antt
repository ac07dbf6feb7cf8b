use Rattle.std.proofs.Common.{arith, ◌≡◌, ℕ, ◌≤◌, true, false, subst}
use Rattle.std.proofs.lemmas.Result.{err_from_is_err_and}
use Rattle.engine_sessions.specs.Inputs.{most_turns}
use Rattle.devdry_files.specs.Pieces.{Adds}
use Rattle.devdry_files.proofs.Whole.{AfterReads, at_start, failed, finished, more, used_up}
use Rattle.devdry_files.proofs.input_reading.read_whole.Goals as goal

pub loop-made-init : goal.loop-made-init
loop-made-init g c = at_start _ _ c.new-text.ensures.items

pub returns-in_err-more-clause-fault : goal.returns-in_err-more-clause-fault
returns-in_err-more-clause-fault g c =
    let p = err_from_is_err_and c.from_residual.result c.from_residual.ensures.1 in
    rw (p.1, p.2) (failed c.in_err-more.field-0.0 _ _ _ _ _ c.loop-made.invariant c.in_err-more.ensures.fault)

pub returns-then-not-more-clause-whole : goal.returns-then-not-more-clause-whole
returns-then-not-more-clause-whole g c =
    let ends = subst (λ m. Adds m c.loop-made.text.items c.read_piece.new.text.items (g.I.Source.shown c.loop-made.input) (g.I.Source.shown c.read_piece.new.input))
    c.if-not-more.true c.in_ok-more.ensures.more in
    rw c.new.ensures (finished _ _ _ _ _ _ c.loop-made.invariant ends)

pub loop-made-preserved : goal.loop-made-preserved
loop-made-preserved g c =
    let adds = subst (λ m. Adds m c.loop-made.text.items c.read_piece.new.text.items (g.I.Source.shown c.loop-made.input) (g.I.Source.shown c.read_piece.new.input))
    c.if-not-more.false c.in_ok-more.ensures.more in
    more _ _ _ _ _ _ c.loop-made.invariant adds

pub returns-clause-fault : goal.returns-clause-fault
returns-clause-fault g c =
    let all : c.loop-made._made ≡ most_turns = all_made c.loop-made._made c.loop-made.auto._made-end c.loop-made-test.false in
    used_up _ _ _ (subst (λ n. AfterReads n c.loop-made.text.items (g.I.Source.shown c.args.input.now) (g.I.Source.shown c.loop-made.input)) all c.loop-made.invariant)
  where
    all_made : (n : ℕ) → n ≤ 281474976710656 → 281474976710656 ≤ n → n ≡ most_turns
    all_made n h k = omega (arith, h, k)
