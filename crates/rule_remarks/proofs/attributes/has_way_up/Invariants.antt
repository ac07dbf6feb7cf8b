use Rattle.std.proofs.Common.{◌≡◌, length}
use Rattle.rule_remarks.specs.Attributes.{has_way_up}
use Rattle.rule_remarks.proofs.attributes.has_way_up.Given as goal

abbrev pub invariant-loop-following : goal.invariant-loop-following
invariant-loop-following l = has_way_up l.rest ≡ has_way_up l.text

abbrev pub decreases-loop-following : goal.decreases-loop-following
decreases-loop-following l = length l.rest
