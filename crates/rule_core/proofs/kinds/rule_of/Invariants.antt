use Rattle.std.proofs.Common.{◌≡◌}
use Rattle.rule_core.specs.Taking.{written_rule}
use Rattle.rule_types.specs.Tokens.{parts_in}
use Rattle.rule_core.proofs.kinds.rule_of.Given as goal

abbrev pub invariant-loop-written : goal.invariant-loop-written
invariant-loop-written l = l.rule ≡ written_rule l.place.file.now l.place.line l.fn.label l.fn.goto (parts_in l.yielded)
