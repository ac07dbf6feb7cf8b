use Rattle.std.proofs.Common.{◌≡◌, take, map, string_bytes}
use Rattle.engine_formats.specs.Diagnostics.{shown}
use Rattle.engine_formats.specs.Fingerprints.{mark_of}
use Rattle.engine_formats.proofs.fingerprints.marks_of.Given as goal

abbrev pub invariant-loop-diagnostic : goal.invariant-loop-diagnostic
invariant-loop-diagnostic l = map string_bytes l.marks.items ≡ map mark_of (map shown (take l.diagnostic-index l.diagnostics))
