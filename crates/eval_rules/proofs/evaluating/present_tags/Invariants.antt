use Rattle.std.proofs.Common.{◌≡◌, drop, map}
use Rattle.eval_assignments.specs.Lists.{without_texts}
use Rattle.eval_rules.proofs.evaluating.present_tags.Given as goal

abbrev pub invariant-loop-text : goal.invariant-loop-text
invariant-loop-text l = without_texts l.tags (map (λ t. t.items) (drop l.text-index l.text-items)) ≡ without_texts l.initial.tags (map (λ t. t.items) l.text-items)
