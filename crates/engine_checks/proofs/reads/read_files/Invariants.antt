use Rattle.std.proofs.Common.{◌≡◌, map, take}
use Rattle.engine_checks.specs.Tables.{read_by}
use Rattle.engine_checks.proofs.reads.read_files.Given as goal

abbrev pub invariant-loop-file : goal.invariant-loop-file
invariant-loop-file l = l.reads.items ≡ map (read_by l.line) (take l.file-index l.files)
