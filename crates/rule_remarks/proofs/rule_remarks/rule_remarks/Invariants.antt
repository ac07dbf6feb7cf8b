use Rattle.std.proofs.Common.{◌≡◌, ◌++◌, drop, flat_map}
use Rattle.rule_types.specs.Tokens.{tokens_in}
use Rattle.rule_remarks.specs.Remarks.{token_remarks}
use Rattle.rule_remarks.proofs.rule_remarks.rule_remarks.Given as goal

abbrev pub invariant-loop-written : goal.invariant-loop-written
invariant-loop-written l =
    l.spots.items ++ flat_map (token_remarks l.accounts) (tokens_in (drop l.written-index l.parts)) ≡ flat_map (token_remarks l.accounts) (tokens_in l.parts)
