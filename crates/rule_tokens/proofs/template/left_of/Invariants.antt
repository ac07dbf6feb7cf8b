use Rattle.std.proofs.Common.{◌≡◌, ◌++◌, length}
use Rattle.rule_tokens.specs.TemplateReading.{left_of}
use Rattle.rule_tokens.proofs.template.left_of.Given as goal

abbrev pub invariant-loop-byte : goal.invariant-loop-byte
invariant-loop-byte l = l.pieces.items ++ left_of l.rest ≡ left_of l.text

abbrev pub decreases-loop-byte : goal.decreases-loop-byte
decreases-loop-byte l = length l.rest
