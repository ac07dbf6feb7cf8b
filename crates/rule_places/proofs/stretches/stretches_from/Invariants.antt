use Rattle.std.proofs.Common.{◌≡◌, ◌++◌, drop}
use Rattle.rule_types.specs.Tokens.{tokens_in}
use Rattle.rule_places.specs.Stretches.{stretches_from}
use Rattle.rule_places.proofs.stretches.stretches_from.Given as goal

abbrev pub invariant-loop-written : goal.invariant-loop-written
invariant-loop-written l =
    l.stretches.items ++ stretches_from l.line l.last (tokens_in (drop l.written-index l.parts)) ≡ stretches_from l.line l.fn.first (tokens_in l.parts)
