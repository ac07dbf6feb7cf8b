use Rattle.std.proofs.Common.{◌≡◌, drop, map}
use Rattle.rule_remarks.specs.Relations.{all_part_ways}
use Rattle.rule_remarks.proofs.relations.all_part_ways.Given as goal

abbrev pub invariant-loop-word : goal.invariant-loop-word
invariant-loop-word l =
    all_part_ways (map (λ word. word.items) (drop l.word-index l.words)) (map (λ word. word.items) l.others)
    ≡ all_part_ways (map (λ word. word.items) l.words) (map (λ word. word.items) l.others)
