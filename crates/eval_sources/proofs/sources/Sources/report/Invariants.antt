use Rattle.std.proofs.Common.{◌≡◌, option_map}
use Rattle.eval_sources.specs.Inner.{kept_after}
use Rattle.eval_sources.proofs.sources.Sources.report.Given as goal

abbrev pub invariant-loop-item : goal.invariant-loop-item
invariant-loop-item l = l.kept ≡ kept_after l.self (option_map (λ r. r.now) l.rule) l.yielded
