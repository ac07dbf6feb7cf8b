use Rattle.std.proofs.Common.{◌≡◌, ◌++◌, drop, map}
use Rattle.eval_sources.specs.Reported.{sourced_made}
use Rattle.eval_sources.proofs.commands.add_made.Given as goal

abbrev pub invariant-loop-each : goal.invariant-loop-each
invariant-loop-each l = l.done.items ++ map sourced_made (drop l.each-index l.made) ≡ l.fn.done.items ++ map sourced_made l.fn.made
