use Rattle.std.proofs.Common.{◌≡◌, ◌≤◌, ◌+◌, ◌-◌, drop, length}
use Rattle.device_core.specs.Filling.{first_run}
use Rattle.device_core.proofs.run_ends.short_run_length.Given as goal

abbrev pub invariant-loop-at : goal.invariant-loop-at
invariant-loop-at l = record {
  within : l.at ≤ 1 + length l.text;
  goes : l.at - 1 + length (first_run (drop (l.at - 1) l.text)) ≡ length (first_run l.text);
}
