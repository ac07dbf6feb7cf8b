use Rattle.std.proofs.Common.{◌≡◌, drop}
use Rattle.devdry_folders.specs.Advice.{reason_among}
use Rattle.devdry_folders.proofs.advice.reason_among.Given as goal

abbrev pub invariant-loop-sight : goal.invariant-loop-sight
invariant-loop-sight l = reason_among l.path (drop l.sight-index l.sights) ≡ reason_among l.path l.sights
