use Rattle.std.proofs.Common.{◌≡◌, drop}
use Rattle.rule_types.specs.Tokens.{tokens_in}
use Rattle.rule_places.specs.Gaps.{is_good_after}
use Rattle.rule_places.proofs.gaps.is_good_after.Given as goal

abbrev pub invariant-loop-written : goal.invariant-loop-written
invariant-loop-written l = is_good_after l.line l.place (tokens_in (drop l.written-index l.parts)) ≡ is_good_after l.line l.start (tokens_in l.parts)
