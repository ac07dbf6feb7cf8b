use Rattle.std.proofs.Common.{◌≡◌, drop}
use Rattle.eval_rules.specs.Inner.{passed_told}
use Rattle.eval_rules.proofs.rules.tell_passed.Given as goal

abbrev pub invariant-loop-rule : goal.invariant-loop-rule
invariant-loop-rule g l = record {
  watch : passed_told g.W.Watch.telling l.fn.scene l.watch (drop l.rule-index l.rules) ≡ passed_told g.W.Watch.telling l.fn.scene l.fn.watch l.fn.rules;
  scene : l.scene ≡ l.fn.scene;
}
