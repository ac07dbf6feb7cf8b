use Rattle.std.proofs.Common.{map, take}
use Rattle.devdry_files.specs.Found.{AreAdded}
use Rattle.devdry_files.proofs.additions.added_files.Given as goal

-- the files so far are those of the paths so far
abbrev pub invariant-loop-path : goal.invariant-loop-path
invariant-loop-path g l = AreAdded (g.D.Disk.may_answer l.disk) (map (λ p. p.now) (take l.path-index l.paths)) l.files.items
