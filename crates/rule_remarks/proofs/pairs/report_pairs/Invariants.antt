use Rattle.std.proofs.Common.{◌≡◌, ◌+◌, drop}
use Rattle.rule_remarks.specs.Pairs.{pairs_with, reported_for}
use Rattle.rule_remarks.proofs.pairs.report_pairs.Given as goal

abbrev pub invariant-loop-later : goal.invariant-loop-later
invariant-loop-later l = record {
  reported : reported_for l.reported.items (pairs_with l.earlier l.place (drop l.later-index l.following)) ≡ reported_for l.initial.reported.items (pairs_with l.earlier l.first l.following);
  place : l.place ≡ l.first + l.later-index;
}
