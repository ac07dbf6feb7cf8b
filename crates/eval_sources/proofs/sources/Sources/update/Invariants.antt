use Rattle.std.proofs.Common.{◌≡◌, option_map}
use Rattle.eval_sources.specs.Inner.{updated}
use Rattle.eval_sources.proofs.sources.Sources.update.Given as goal

abbrev pub invariant-loop-one : goal.invariant-loop-one
invariant-loop-one l = l.self ≡ updated l.fn.self (option_map (λ r. r.now) l.rule) l.yielded
