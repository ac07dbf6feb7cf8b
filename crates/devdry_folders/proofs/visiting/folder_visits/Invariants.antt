use Rattle.std.proofs.Common.{map, take}
use Rattle.devdry_files.specs.Places.{place_of}
use Rattle.devdry_folders.specs.Visits.{AreFolderVisits}
use Rattle.devdry_folders.proofs.visiting.folder_visits.Given as goal

-- the visits so far are those of the folders so far
abbrev pub invariant-loop-folder : goal.invariant-loop-folder
invariant-loop-folder g l = AreFolderVisits (g.D.Disk.may_answer l.disk) (map place_of (take l.folder-index l.folders)) l.visits.items
