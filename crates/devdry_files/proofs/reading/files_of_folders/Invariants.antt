use Rattle.std.proofs.Common.{take}
use Rattle.devdry_files.specs.Found.{AreInFolders}
use Rattle.devdry_files.proofs.reading.files_of_folders.Given as goal

-- the files so far are those of the folders so far
abbrev pub invariant-loop-folder : goal.invariant-loop-folder
invariant-loop-folder g l = AreInFolders (g.D.Disk.may_answer l.disk) (take l.folder-index l.folders) l.files.items
