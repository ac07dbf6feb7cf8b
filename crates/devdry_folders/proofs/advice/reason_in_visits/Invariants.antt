use Rattle.std.proofs.Common.{◌≡◌, drop}
use Rattle.devdry_folders.specs.Advice.{reason_in_visits}
use Rattle.devdry_folders.proofs.advice.reason_in_visits.Given as goal

abbrev pub invariant-loop-visit : goal.invariant-loop-visit
invariant-loop-visit l = reason_in_visits l.path (drop l.visit-index l.visits) ≡ reason_in_visits l.path l.visits
