use Rattle.std.proofs.Common.{◌≡◌, take}
use Rattle.engine_formats.specs.Sarif.{message_text}
use Rattle.engine_formats.proofs.sarif.message_text.Given as goal

abbrev pub invariant-loop-byte : goal.invariant-loop-byte
invariant-loop-byte l = l.said.items ≡ message_text (take l.byte-index l.text)
