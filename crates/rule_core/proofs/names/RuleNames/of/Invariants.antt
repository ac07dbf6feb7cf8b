use Rattle.std.proofs.Common.{◌≡◌, take}
use Rattle.rule_core.specs.Taking.{names_given}
use Rattle.rule_core.proofs.names.RuleNames.of.Given as goal

abbrev pub invariant-loop-written : goal.invariant-loop-written
invariant-loop-written l = l.names ≡ names_given l.profile (take l.written-index l.parts)
