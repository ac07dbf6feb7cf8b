use Rattle.std.proofs.Common.{◌≡◌, ◌++◌}
use Rattle.rule_places.specs.Rewritten.{rewritten_from}
use Rattle.rule_places.specs.WholeLines.{whole_lines}
use Rattle.rule_places.proofs.rewriting.add_rewritten.Given as goal

abbrev pub invariant-loop-line : goal.invariant-loop-line
invariant-loop-line l =
    l.written.items ++ rewritten_from l.text l.stretches l.place l.line-iterator ≡ l.initial.written.items ++ rewritten_from l.text l.stretches 0 (whole_lines l.run)
