use Rattle.std.proofs.Common.{[], ap, sym, ◌∙◌, ◌++◌, arith, drop, ◌+◌, option_map}
use Rattle.engine_answers.proofs.EnvMembers.{each_env, env_one, one_on}
use Rattle.engine_answers.specs.JsonInner.{shape_of}
use Rattle.engine_answers.proofs.json_items.write_each_env.Goals as goal

pub loop-place-preserved : goal.loop-place-preserved
loop-place-preserved c =
    let shape = shape_of (option_map (λ s. s.now) c.args.sources) in
    record {
      tokens =
          ap (λ ts. c.write_shown.new.writer.tokens ++ ts) (each_env shape (drop (c.loop-place.place + 1) c.args.pairs.now))
          ∙ one_on (env_one shape) c.args.pairs.now c.loop-place.place _ ([], []) c.loop-place.writer.tokens _ _ (omega (arith, c.loop-place-test.true, c.len-place-end.ensures)) c.pair_at.ensures c.in_ok-write_shown.ensures.tokens
          (ap (λ ts. c.loop-place.writer.tokens ++ ts) (sym (each_env shape (drop c.loop-place.place c.args.pairs.now))) ∙ c.loop-place.invariant.tokens);
      before = c.in_ok-write_shown.ensures.before ∙ c.loop-place.invariant.before;
    }
