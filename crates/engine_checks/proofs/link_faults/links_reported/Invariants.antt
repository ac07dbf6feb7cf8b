use Rattle.std.proofs.Common.{◌≡◌, map, take}
use Rattle.std.specs.List.{flat_map}
use Rattle.engine_formats.specs.Diagnostics.{shown}
use Rattle.engine_checks.specs.Tables.{links_reported_by}
use Rattle.engine_checks.proofs.link_faults.links_reported.Given as goal

abbrev pub invariant-loop-read : goal.invariant-loop-read
invariant-loop-read l = map shown l.reported.items ≡ flat_map (links_reported_by l.asked l.files) (take l.read-index l.reads)
