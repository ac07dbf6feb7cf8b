use Rattle.std.proofs.Common.{◌≡◌, drop, map}
use Rattle.std.specs.List.{list_any}
use Rattle.eval_assignments.specs.Links.{is_barred}
use Rattle.eval_assignments.proofs.links.any_barred.Given as goal

abbrev pub invariant-loop-part : goal.invariant-loop-part
invariant-loop-part l = list_any is_barred (map (λ t. t.now) (drop l.part-index l.parts)) ≡ list_any is_barred (map (λ t. t.now) l.fn.parts)
