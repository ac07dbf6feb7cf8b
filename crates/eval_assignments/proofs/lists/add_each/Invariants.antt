use Rattle.std.proofs.Common.{◌≡◌, drop, map}
use Rattle.text_tables.specs.Texts.{with_texts}
use Rattle.eval_assignments.proofs.lists.add_each.Given as goal

abbrev pub invariant-loop-text : goal.invariant-loop-text
invariant-loop-text l = with_texts l.texts (map (λ t. t.now) (drop l.text-index l.more)) ≡ with_texts l.fn.texts (map (λ t. t.now) l.fn.more)
