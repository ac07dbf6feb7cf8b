use Rattle.std.proofs.Common.{◌∙◌, ap, sym, arith, length}
use Rattle.rule_core.proofs.Noting.{ended_relanded, one_relanded}
use Rattle.rule_types.specs.declared.jumps.Landing.{Landing}
use Rattle.rule_core.specs.Rules.{Reading}
use Rattle.rule_core.proofs.readings.land.Goals as goal

pub loop-line-preserved : goal.loop-line-preserved
loop-line-preserved c =
    one_relanded c.loop-line.line-items c.loop-line.line-index c.line-item.result c.line.inside.reading c.first_landing.result.0 c.loop-line.rest.now c.first_landing.result.1.now _
    (omega (arith, c.loop-line-test.true, c.loop-line.auto.line-items)) c.line-item.is (ap (λ (x : Reading × Landing). x.0) c.line.view_is ∙ sym (ap (λ (x : Reading × Landing). x.0) c.line-item.is)) c.first_landing.ensures c.loop-line.invariant

pub returns : goal.returns
returns c =
    ended_relanded c.loop-line.line-items c.args.landed.now.items c.loop-line.line-index c.args.landed.now.len c.loop-line.rest.now _
    (c.loop-line.auto.line-items ∙ ap length c.deref_mut-line-items.ensures.value) (cc)
    (omega (arith, c.loop-line-test.false, ap length c.deref_mut-line-items.ensures.value)) c.loop-line.invariant
