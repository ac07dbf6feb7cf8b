use Rattle.std.proofs.Common.{◌≡◌, map, drop, nat_eq}
use Rattle.std.specs.Cmp.Lexicographic.{pointwise}
use Rattle.std.specs.List.{list_any}
use Rattle.rule_parts.proofs.refusals.is_among.Given as goal

abbrev pub invariant-loop-name : goal.invariant-loop-name
invariant-loop-name l =
    list_any (λ name. pointwise nat_eq name l.text) (map (λ name. name.now) (drop l.name-index l.names)) ≡ list_any (λ name. pointwise nat_eq name l.text) (map (λ name. name.now) l.names)
