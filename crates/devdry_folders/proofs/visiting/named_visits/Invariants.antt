use Rattle.std.proofs.Common.{map, take}
use Rattle.devdry_folders.specs.Visits.{AreNamedVisits}
use Rattle.devdry_folders.proofs.visiting.named_visits.Given as goal

-- the visits so far are those of the paths so far
abbrev pub invariant-loop-path : goal.invariant-loop-path
invariant-loop-path g l = AreNamedVisits (g.D.Disk.may_answer l.disk) l.kind (map (λ p. p.now) (take l.path-index l.paths)) l.visits.items
