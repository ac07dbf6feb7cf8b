use Rattle.devdry_links.specs.Visits.{AreVisits}
use Rattle.devdry_links.proofs.visits.visits.Given as goal

-- the visits so far are those of the folders so far
abbrev pub invariant-loop-place : goal.invariant-loop-place
invariant-loop-place g l = AreVisits (g.D.Disk.may_answer l.disk) l.yielded l.visits.items
