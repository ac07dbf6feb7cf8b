use Rattle.eval_commands.proofs.Spacing.{cut_is}
use Rattle.eval_commands.proofs.unquoted.cut_word.Goals as goal

pub returns-then-byte-ne32-clause-value : goal.returns-then-byte-ne32-clause-value
returns-then-byte-ne32-clause-value c =
    cut_is c.args.text.now c.loop-byte.rest.now c.in-Some.after.now c.in-Some.byte.now c.count_before_space.result c.split_at.result.0.now c.split_at.result.1.now
    c.loop-byte.invariant.same c.in-Some.ensures.cases.0 c.if-byte-ne32.true c.count_before_space.ensures.value c.split_at.ensures.front c.split_at.ensures.back
