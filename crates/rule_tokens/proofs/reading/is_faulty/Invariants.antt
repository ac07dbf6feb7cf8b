use Rattle.std.proofs.Common.{◌≡◌, length}
use Rattle.rule_tokens.specs.TemplateReading.{is_faulty}
use Rattle.rule_tokens.proofs.reading.is_faulty.Given as goal

abbrev pub invariant-loop-byte : goal.invariant-loop-byte
invariant-loop-byte l = is_faulty l.rest ≡ is_faulty l.text

abbrev pub decreases-loop-byte : goal.decreases-loop-byte
decreases-loop-byte l = length l.rest
