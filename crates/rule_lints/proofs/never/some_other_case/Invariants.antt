use Rattle.std.proofs.Common.{◌≡◌, drop, map}
use Rattle.std.specs.List.{list_any}
use Rattle.rule_lints.specs.Never.{are_other_case}
use Rattle.rule_lints.proofs.never.some_other_case.Given as goal

abbrev pub invariant-loop-name : goal.invariant-loop-name
invariant-loop-name l =
    list_any (λ name. are_other_case name l.pattern) (map (λ name. name.now) (drop l.name-index l.names))
    ≡ list_any (λ name. are_other_case name l.pattern) (map (λ name. name.now) l.names)
