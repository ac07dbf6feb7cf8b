use Rattle.std.proofs.Common.{map, string_bytes, take}
use Rattle.devdry_files.specs.Found.{AreFilesAt, path_in}
use Rattle.devdry_files.proofs.reading.files_in.Given as goal

-- the files so far are those of the names so far
abbrev pub invariant-loop-name : goal.invariant-loop-name
invariant-loop-name g l = AreFilesAt (g.D.Disk.may_answer l.disk) l.folder.kind l.folder.rank (path_in l.folder) (map string_bytes (take l.name-index l.name-items)) l.files.items
