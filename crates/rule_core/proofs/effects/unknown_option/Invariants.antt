use Rattle.std.proofs.Common.{◌≡◌, drop}
use Rattle.rule_core.specs.Effects.{unknown_option}
use Rattle.rule_types.specs.Tokens.{tokens_in}
use Rattle.rule_core.proofs.effects.unknown_option.Given as goal

abbrev pub invariant-loop-written : goal.invariant-loop-written
invariant-loop-written l = unknown_option (tokens_in (drop l.written-index l.parts)) ≡ unknown_option (tokens_in l.parts)
