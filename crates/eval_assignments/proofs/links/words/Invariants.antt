use Rattle.std.proofs.Common.{◌≡◌, ◌++◌, drop, map}
use Rattle.eval_assignments.specs.Links.{words}
use Rattle.eval_assignments.specs.Lists.{not_empty}
use Rattle.eval_assignments.proofs.links.words.Given as goal

abbrev pub invariant-loop-part : goal.invariant-loop-part
invariant-loop-part l = map (λ t. t.now) l.words.items ++ not_empty (map (λ t. t.now) (drop l.part-index l.part-items)) ≡ words l.fn.text
