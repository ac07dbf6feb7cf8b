use Rattle.std.proofs.Common.{◌≡◌, ◌++◌, drop, map}
use Rattle.eval_rules.specs.Outcomes.{made_command}
use Rattle.eval_rules.proofs.evaluating.add_made.Given as goal

abbrev pub invariant-loop-run : goal.invariant-loop-run
invariant-loop-run l = l.commands ++ map made_command (drop l.run-index l.made) ≡ l.fn.commands ++ map made_command l.fn.made
