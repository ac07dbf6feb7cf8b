use Rattle.std.proofs.Common.{◌≡◌, drop}
use Rattle.eval_unread.specs.Given.{first_looking}
use Rattle.eval_unread.proofs.given.first_looking.Given as goal

abbrev pub invariant-loop-rule : goal.invariant-loop-rule
invariant-loop-rule l = first_looking (drop l.rule-index l.rules) ≡ first_looking l.fn.rules
