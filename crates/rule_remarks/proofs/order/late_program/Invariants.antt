use Rattle.std.proofs.Common.{◌≡◌, drop}
use Rattle.rule_types.specs.Tokens.{tokens_in}
use Rattle.rule_remarks.specs.Remarks.{late_program}
use Rattle.rule_remarks.proofs.Late.{following}
use Rattle.rule_remarks.proofs.order.late_program.Given as goal

abbrev pub invariant-loop-written : goal.invariant-loop-written
invariant-loop-written l = following l.asked (tokens_in (drop l.written-index l.parts)) ≡ late_program (tokens_in l.parts)
