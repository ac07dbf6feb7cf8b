use Rattle.std.proofs.Common.{◌≡◌, drop, map}
use Rattle.rule_lints.specs.ValueTexts.{begins_with_one}
use Rattle.rule_lints.proofs.value_texts.begins_with_one.Given as goal

abbrev pub invariant-loop-name : goal.invariant-loop-name
invariant-loop-name l = begins_with_one (map (λ name. name.now) (drop l.name-index l.names)) l.text ≡ begins_with_one (map (λ name. name.now) l.names) l.text
