use Rattle.std.proofs.Common.{◌≡◌, drop, map}
use Rattle.file_catalogue.proofs.Unknown.{unknown_in}
use Rattle.file_catalogue.proofs.ignored.unknown_ignored.Given as goal

abbrev pub invariant-loop-value : goal.invariant-loop-value
invariant-loop-value l = unknown_in (map (λ v. v.now) (drop l.value-index l.values)) ≡ unknown_in (map (λ v. v.now) l.values)
