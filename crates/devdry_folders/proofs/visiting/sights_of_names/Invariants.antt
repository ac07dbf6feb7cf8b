use Rattle.std.proofs.Common.{map, string_bytes, take}
use Rattle.devdry_folders.specs.Visits.{AreSightsAt}
use Rattle.devdry_folders.proofs.visiting.sights_of_names.Given as goal

-- the sights so far are those of the names so far
abbrev pub invariant-loop-name : goal.invariant-loop-name
invariant-loop-name g l = AreSightsAt (g.D.Disk.may_answer l.disk) l.suffix l.folder (map string_bytes (take l.name-index l.names)) l.sights.items
