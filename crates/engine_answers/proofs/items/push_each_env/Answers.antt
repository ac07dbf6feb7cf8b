use Rattle.std.proofs.Common.{[], ap, sym, ◌∙◌, ◌++◌, arith, drop, ◌+◌, option_map}
use Rattle.engine_answers.proofs.InFront.{each_env, env_line}
use Rattle.engine_answers.proofs.Listed.{one_line_on}
use Rattle.engine_answers.specs.Inner.{front_of}
use Rattle.engine_answers.proofs.items.push_each_env.Goals as goal

pub loop-place-preserved : goal.loop-place-preserved
loop-place-preserved c =
    let front = front_of (option_map (λ s. s.now) c.args.sources) in
    ap (λ l. c.push_shown.new.lines.items ++ l) (each_env front (drop (c.loop-place.place + 1) c.args.pairs.now))
    ∙ one_line_on (env_line front) c.args.pairs.now c.loop-place.place _ ([], []) c.loop-place.lines.items _ _ (omega (arith, c.loop-place-test.true, c.len-place-end.ensures)) c.pair_at.ensures c.in_ok-push_shown.ensures
    (ap (λ l. c.loop-place.lines.items ++ l) (sym (each_env front (drop c.loop-place.place c.args.pairs.now))) ∙ c.loop-place.invariant)
