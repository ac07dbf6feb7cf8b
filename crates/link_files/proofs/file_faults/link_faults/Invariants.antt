use Rattle.std.proofs.Common.{◌≡◌, ◌++◌, drop}
use Rattle.link_files.specs.Faults.{faults_from}
use Rattle.link_files.specs.Matching.{link_faults}
use Rattle.link_files.proofs.file_faults.link_faults.Given as goal

abbrev pub invariant-loop-line : goal.invariant-loop-line
invariant-loop-line l = l.found.items ++ faults_from l.section (drop l.line-index l.line-items) ≡ link_faults l.files l.file
