use Rattle.std.proofs.Common.{◌≡◌, map, take}
use Rattle.rule_types.specs.Tokens.{tokens_in}
use Rattle.rule_remarks.specs.Said.{said_of}
use Rattle.rule_remarks.proofs.pairs.pair_findings.Given as goal

abbrev pub invariant-loop-written : goal.invariant-loop-written
invariant-loop-written l = l.said.items ≡ map (said_of l.accounts) (tokens_in (take l.written-index l.parts))
