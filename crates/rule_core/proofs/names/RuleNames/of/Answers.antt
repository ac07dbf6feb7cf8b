use Rattle.rule_core.proofs.Taking.{names_next}
use Rattle.rule_core.proofs.names.RuleNames.of.Goals as goal

pub loop-written-preserved : goal.loop-written-preserved
loop-written-preserved c =
    names_next c.args.profile c.args.parts.now c.loop-written.written-index c.written-item.result c.loop-written.names c.take.new.self c.loop-written-test.true c.written-item.is c.loop-written.invariant c.in_ok-take.ensures
