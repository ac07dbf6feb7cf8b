use Rattle.std.proofs.Common.{◌≡◌, drop}
use Rattle.std.specs.List.{list_any}
use Rattle.rule_core.specs.Effects.{has_effect}
use Rattle.rule_types.specs.Tokens.{tokens_in}
use Rattle.rule_core.proofs.effects.lacks_effect.Given as goal

abbrev pub invariant-loop-written : goal.invariant-loop-written
invariant-loop-written l = list_any has_effect (tokens_in (drop l.written-index l.parts)) ≡ list_any has_effect (tokens_in l.parts)
