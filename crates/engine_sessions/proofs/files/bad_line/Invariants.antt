use Rattle.std.proofs.Common.{◌≡◌, find}
use Rattle.engine_sessions.specs.Files.{bad_line, is_bad}
use Rattle.engine_sessions.proofs.files.bad_line.Given as goal

abbrev pub invariant-loop-line : goal.invariant-loop-line
invariant-loop-line l = find (λ line. is_bad line.text) l.line-iterator ≡ bad_line l.bytes
