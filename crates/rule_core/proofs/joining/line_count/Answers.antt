use Rattle.rule_core.proofs.Counting.{all_counted}
use Rattle.rule_core.proofs.joining.line_count.Goals as goal

pub returns : goal.returns
returns c = all_counted c.loop-line.count c.loop-line.line-iterator c.args.bytes.now c.loop-line.invariant c.in-None.ensures.steps.0
