use Rattle.std.proofs.Common.{◌≡◌, map, take}
use Rattle.engine_formats.specs.Diagnostics.{shown}
use Rattle.engine_checks.specs.Files.{database_diagnostic}
use Rattle.engine_checks.proofs.found.database_diagnostics.Given as goal

abbrev pub invariant-loop-message : goal.invariant-loop-message
invariant-loop-message l = map shown l.found.items ≡ map (database_diagnostic l.file) (take l.message-index l.messages)
