use Rattle.std.proofs.Common.{◌≡◌, count_by, take}
use Rattle.text_bytes.specs.Escapes.{is_escaped}
use Rattle.engine_sessions.proofs.escaping.count_in_chunk.Given as goal

abbrev pub invariant-loop-byte : goal.invariant-loop-byte
invariant-loop-byte l = l.count ≡ count_by is_escaped (take l.byte-index l.chunk)
