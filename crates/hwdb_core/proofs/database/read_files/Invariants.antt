use Rattle.std.proofs.Common.{drop}
use Rattle.hwdb_core.specs.Parts.{file_found}
use Rattle.hwdb_core.proofs.Joining.{Proceeds}
use Rattle.hwdb_core.proofs.database.read_files.Given as goal

abbrev pub invariant-loop-file : goal.invariant-loop-file
invariant-loop-file l = Proceeds (file_found) l.initial.found l.found l.files (drop l.file-index l.files)
