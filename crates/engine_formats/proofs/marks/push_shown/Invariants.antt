use Rattle.std.proofs.Common.{◌≡◌, ◌++◌, map, take}
use Rattle.engine_formats.specs.Human.{shown_byte}
use Rattle.engine_formats.proofs.marks.push_shown.Given as goal

abbrev pub invariant-loop-byte : goal.invariant-loop-byte
invariant-loop-byte l = l.text.items ≡ l.initial.text.items ++ map shown_byte (take l.byte-index l.bytes)
