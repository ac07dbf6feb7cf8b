use Rattle.std.proofs.Common.{◌≡◌, ◌++◌, drop, filter_map}
use Rattle.rule_types.specs.Tokens.{tokens_in}
use Rattle.rule_remarks.specs.Remarks.{pair_remark}
use Rattle.rule_remarks.proofs.rule_remarks.add_pairs.Given as goal

abbrev pub invariant-loop-found : goal.invariant-loop-found
invariant-loop-found l =
    l.spots.items ++ filter_map (pair_remark (tokens_in l.parts)) (drop l.found-index l.found-items)
    ≡ l.initial.spots.items ++ filter_map (pair_remark (tokens_in l.parts)) l.found-items
