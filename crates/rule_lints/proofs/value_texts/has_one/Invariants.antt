use Rattle.std.proofs.Common.{◌≡◌, length, map}
use Rattle.rule_lints.specs.ValueTexts.{has_one}
use Rattle.rule_lints.proofs.value_texts.has_one.Given as goal

abbrev pub invariant-loop-following : goal.invariant-loop-following
invariant-loop-following l = has_one (map (λ name. name.now) l.names) l.rest ≡ has_one (map (λ name. name.now) l.names) l.text

abbrev pub decreases-loop-following : goal.decreases-loop-following
decreases-loop-following l = length l.rest
