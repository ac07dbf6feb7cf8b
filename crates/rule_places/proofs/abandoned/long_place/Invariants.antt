use Rattle.std.proofs.Common.{◌≡◌}
use Rattle.text_bytes.specs.Lines.{numbered_lines}
use Rattle.rule_places.specs.Abandoned.{long_place}
use Rattle.rule_places.proofs.abandoned.long_place.Given as goal

abbrev pub invariant-loop-line : goal.invariant-loop-line
invariant-loop-line l = long_place l.line-iterator ≡ long_place (numbered_lines l.bytes)
