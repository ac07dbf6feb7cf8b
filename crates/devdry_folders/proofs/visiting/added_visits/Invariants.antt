use Rattle.std.proofs.Common.{map, take}
use Rattle.devdry_folders.specs.Visits.{AreAddedVisits}
use Rattle.devdry_folders.proofs.visiting.added_visits.Given as goal

-- the visits so far are those of the paths so far
abbrev pub invariant-loop-path : goal.invariant-loop-path
invariant-loop-path g l = AreAddedVisits (g.D.Disk.may_answer l.disk) (map (λ p. p.now) (take l.path-index l.paths)) l.visits.items
