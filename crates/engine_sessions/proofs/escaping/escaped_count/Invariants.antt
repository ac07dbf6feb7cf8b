use Rattle.std.proofs.Common.{◌≡◌, ◌+◌, count_by, length}
use Rattle.text_bytes.specs.Escapes.{is_escaped}
use Rattle.engine_sessions.proofs.escaping.escaped_count.Given as goal

abbrev pub invariant-loop-rest : goal.invariant-loop-rest
invariant-loop-rest l = l.count + count_by is_escaped l.rest ≡ count_by is_escaped l.text

abbrev pub decreases-loop-rest : goal.decreases-loop-rest
decreases-loop-rest l = length l.rest
