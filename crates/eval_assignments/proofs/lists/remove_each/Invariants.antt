use Rattle.std.proofs.Common.{◌≡◌, drop, map}
use Rattle.eval_assignments.specs.Lists.{without_texts}
use Rattle.eval_assignments.proofs.lists.remove_each.Given as goal

abbrev pub invariant-loop-text : goal.invariant-loop-text
invariant-loop-text l = without_texts l.texts (map (λ t. t.now) (drop l.text-index l.gone)) ≡ without_texts l.fn.texts (map (λ t. t.now) l.fn.gone)
