use Rattle.std.proofs.Common.{◌≡◌, ◌-◌, drop, length}
use Rattle.rule_remarks.specs.Known.{chances_of, known_of}
use Rattle.rule_remarks.proofs.known.chances_of.Given as goal

abbrev pub invariant-loop-place : goal.invariant-loop-place
invariant-loop-place l = record {
  known : l.known ≡ known_of (drop (length l.said - l.place) l.said);
  chances : l.chances.items ≡ chances_of (drop (length l.said - l.place) l.said);
}
