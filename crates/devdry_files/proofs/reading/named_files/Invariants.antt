use Rattle.std.proofs.Common.{map, take}
use Rattle.devdry_files.specs.Found.{AreNamed}
use Rattle.devdry_files.proofs.reading.named_files.Given as goal

-- the files so far are those of the paths so far
abbrev pub invariant-loop-path : goal.invariant-loop-path
invariant-loop-path g l = AreNamed (g.D.Disk.may_answer l.disk) l.kind (map (λ p. p.now) (take l.path-index l.paths)) l.files.items
