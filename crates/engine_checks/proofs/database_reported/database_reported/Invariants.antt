use Rattle.std.proofs.Common.{◌≡◌, map, take}
use Rattle.std.specs.List.{flat_map}
use Rattle.engine_formats.specs.Diagnostics.{shown}
use Rattle.engine_checks.specs.Tables.{database_reported_by}
use Rattle.engine_checks.proofs.database_reported.database_reported.Given as goal

abbrev pub invariant-loop-read : goal.invariant-loop-read
invariant-loop-read l = map shown l.reported.items ≡ flat_map (database_reported_by l.asked) (take l.read-index l.reads)
