use Rattle.std.proofs.Common.{map, string_bytes, take}
use Rattle.std.specs.List.{AllZip}
use Rattle.devdry_files.specs.Inside.{IsEntryIn}
use Rattle.devdry_files.proofs.rooted_disk.entries_in.Given as goal

-- the entries so far are those of the entries of the folder so far
abbrev pub invariant-loop-entry : goal.invariant-loop-entry
invariant-loop-entry g l = AllZip (IsEntryIn (g.D.Disk.may_answer l.disk) l.root (map string_bytes l.way)) (take l.entry-index l.own) l.entries.items
