use Rattle.std.proofs.Common.{sym, subst, ◌∙◌, arith}
use Rattle.text_bytes.specs.Lines.{lines}
use Rattle.device_core.specs.Steps.{HaveNoNul, sofar, nothing_read, steps}
use Rattle.device_core.proofs.Few.{few_step}
use Rattle.device_core.proofs.Reading.{steps_on, steps_fail, steps_end}
use Rattle.device_core.proofs.read.read_rest.Goals as goal

pub returns-in-Err : goal.returns-in-Err
returns-in-Err c = record {
  value = steps_fail (sofar c.loop-rest.draft) c.loop-rest.above c.loop-rest.rest.now c.first_line.result.0.now c.first_line.result.1.now (steps nothing_read 1 (lines c.args.text.now)) c.first_line.ensures.value c.in-Err.kind c.in-Err.ensures c.loop-rest.invariant.same;
  few = tt;
}

pub loop-rest-preserved : goal.loop-rest-preserved
loop-rest-preserved c = record {
  counted = omega (arith, c.first_line.ensures.shorter);
  few = few_step (sofar c.loop-rest.draft) c.first_line.result.0.now _ (sofar c.add_line.new.draft) c.in-Ok.ensures c.loop-rest.invariant.few;
  plain = λ e. (subst HaveNoNul c.first_line.ensures.value (c.loop-rest.invariant.plain e)).1;
  same = steps_on (sofar c.loop-rest.draft) c.loop-rest.above c.loop-rest.rest.now c.first_line.result.0.now c.first_line.result.1.now (steps nothing_read 1 (lines c.args.text.now)) c.first_line.ensures.value (sofar c.add_line.new.draft) c.in-Ok.ensures c.loop-rest.invariant.same;
}

pub returns-clause-value : goal.returns-clause-value
returns-clause-value c = steps_end (sofar c.loop-rest.draft) c.loop-rest.above c.loop-rest.rest.now (steps nothing_read 1 (lines c.args.text.now)) (sym c.is_empty.ensures ∙ c.loop-rest-test.false) c.loop-rest.invariant.same
