use Rattle.std.proofs.Common.{◌≡◌, map, take}
use Rattle.engine_checks.specs.Tables.{link_read_by}
use Rattle.engine_checks.proofs.reads.read_links.Given as goal

abbrev pub invariant-loop-file : goal.invariant-loop-file
invariant-loop-file l = l.reads.items ≡ map (link_read_by l.line) (take l.file-index l.files)
