use Rattle.std.proofs.Common.{◌≡◌, ◌++◌, flat_map, take}
use Rattle.engine_formats.specs.Human.{under}
use Rattle.engine_formats.proofs.marks.push_under.Given as goal

abbrev pub invariant-loop-byte : goal.invariant-loop-byte
invariant-loop-byte l = l.text.items ≡ l.initial.text.items ++ flat_map (under l.mark) (take l.byte-index l.bytes)
