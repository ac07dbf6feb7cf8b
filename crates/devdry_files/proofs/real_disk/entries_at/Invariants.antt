use Rattle.std.proofs.Common.{map, string_bytes, take}
use Rattle.std.specs.List.{AllZip}
use Rattle.devdry_files.specs.Calls.{IsEntrySeen}
use Rattle.devdry_files.proofs.real_disk.entries_at.Given as goal

-- the entries so far are those of the names so far
abbrev pub invariant-loop-name : goal.invariant-loop-name
invariant-loop-name g l = AllZip (IsEntrySeen (g.S.System.may_reply l.system) l.folder) (map string_bytes (take l.name-index l.names)) l.entries.items
