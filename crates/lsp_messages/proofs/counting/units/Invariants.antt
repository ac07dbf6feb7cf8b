use Rattle.std.proofs.Common.{◌≡◌, take}
use Rattle.text_bytes.specs.Numbers.{capped}
use Rattle.lsp_messages.specs.Units.{units}
use Rattle.lsp_messages.proofs.counting.units.Given as goal

abbrev pub invariant-loop-byte : goal.invariant-loop-byte
invariant-loop-byte l = l.units ≡ capped (units l.encoding (take l.byte-index l.text))
