use Rattle.std.proofs.Common.{◌≡◌, ◌++◌, take, flat_map}
use Rattle.std.specs.Str.Lossy.{replacement_bytes}
use Rattle.text_json.specs.Told.{told_byte}
use Rattle.text_json.proofs.telling.marked.Given as goal

abbrev pub invariant-loop-byte : goal.invariant-loop-byte
invariant-loop-byte l = l.marked.items ≡ replacement_bytes ++ flat_map told_byte (take l.byte-index l.text)
