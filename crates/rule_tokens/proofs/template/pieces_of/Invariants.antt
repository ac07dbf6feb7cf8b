use Rattle.std.proofs.Common.{◌≡◌, length}
use Rattle.rule_tokens.specs.TemplateReading.{pieces_of}
use Rattle.rule_tokens.proofs.TemplatePieces.{with_pieces}
use Rattle.rule_tokens.proofs.template.pieces_of.Given as goal

abbrev pub invariant-loop-byte : goal.invariant-loop-byte
invariant-loop-byte l = with_pieces l.pieces.items (pieces_of l.rest) ≡ pieces_of l.text

abbrev pub decreases-loop-byte : goal.decreases-loop-byte
decreases-loop-byte l = length l.rest
