use Rattle.std.proofs.Common.{◌≡◌, drop, map}
use Rattle.std.specs.List.{list_all}
use Rattle.rule_remarks.specs.Relations.{beginning, part_ways}
use Rattle.rule_remarks.proofs.relations.parts_from_all.Given as goal

abbrev pub invariant-loop-other : goal.invariant-loop-other
invariant-loop-other l =
    list_all (λ v. part_ways l.prefix (beginning v)) (map (λ word. word.items) (drop l.other-index l.others))
    ≡ list_all (λ v. part_ways l.prefix (beginning v)) (map (λ word. word.items) l.others)
