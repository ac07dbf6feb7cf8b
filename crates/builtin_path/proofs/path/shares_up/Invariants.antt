use Rattle.std.proofs.Common.{◌≡◌, ◌++◌, drop, map}
use Rattle.std.specs.List.{filter_map}
use Rattle.builtin_path.specs.Path.{shared}
use Rattle.builtin_path.proofs.path.shares_up.Given as goal

abbrev pub invariant-loop-stop : goal.invariant-loop-stop
invariant-loop-stop l = map (λ t. t.now) l.parts.items ++ filter_map shared (drop l.stop-index l.stops) ≡ filter_map shared l.stops
