use Rattle.std.proofs.Common.{◌≡◌, ◌-◌, ◌||◌, drop}
use Rattle.device_core.specs.Filling.{has_empty_line}
use Rattle.device_core.proofs.run_ends.has_empty_line.Given as goal

abbrev pub invariant-loop-at : goal.invariant-loop-at
invariant-loop-at l = (l.found || has_empty_line (drop (l.at - 1) l.text)) ≡ has_empty_line l.text
