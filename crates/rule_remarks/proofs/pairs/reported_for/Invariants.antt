use Rattle.std.proofs.Common.{◌≡◌, [], ◌-◌, ◌≤◌, drop, length}
use Rattle.rule_remarks.specs.Known.{AreChances}
use Rattle.rule_remarks.specs.Pairs.{pairs_from, reported_for}
use Rattle.rule_remarks.proofs.pairs.reported_for.Given as goal

abbrev pub invariant-loop-earlier : goal.invariant-loop-earlier
invariant-loop-earlier l = record {
  reported : reported_for l.reported.items (pairs_from (length l.said - length l.left) l.left) ≡ reported_for [] (pairs_from 0 l.said);
  suffix : l.left ≡ drop (length l.said - length l.left) l.said;
  chances : AreChances l.chances.items l.said;
  within : length l.left ≤ length l.said;
}

abbrev pub decreases-loop-earlier : goal.decreases-loop-earlier
decreases-loop-earlier l = length l.left
