use Rattle.std.proofs.Common.{◌≡◌, map, take}
use Rattle.rule_core.specs.Rules.{names_of}
use Rattle.rule_core.proofs.readings.landings_of.Given as goal

abbrev pub invariant-loop-line : goal.invariant-loop-line
invariant-loop-line l = l.jumps.items ≡ map (λ x. names_of x.0.read) (take l.line-index l.readings)
