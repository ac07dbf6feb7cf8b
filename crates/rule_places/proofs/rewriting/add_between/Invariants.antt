use Rattle.std.proofs.Common.{◌≡◌, ◌++◌, drop}
use Rattle.rule_places.specs.Rewritten.{written_between}
use Rattle.rule_places.proofs.rewriting.add_between.Given as goal

abbrev pub invariant-loop-stretch : goal.invariant-loop-stretch
invariant-loop-stretch l =
    l.own.items ++ written_between l.text (drop l.stretch-index l.stretches) l.from l.to ≡ l.initial.own.items ++ written_between l.text l.stretches l.from l.to
