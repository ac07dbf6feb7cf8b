use Rattle.std.proofs.Common.{◌≡◌, ◌++◌, length}
use Rattle.std.specs.List.{flat_map}
use Rattle.rule_tokens.specs.Values.{meaning}
use Rattle.rule_tokens.specs.Reading.{pieces_of}
use Rattle.rule_tokens.proofs.unquoting.meaning_of.Given as goal

abbrev pub invariant-loop-meaning : goal.invariant-loop-meaning
invariant-loop-meaning l = l.out.items ++ flat_map meaning (pieces_of l.fn.escaped 0 l.rest) ≡ flat_map meaning (pieces_of l.fn.escaped 0 l.fn.text)

abbrev pub decreases-loop-meaning : goal.decreases-loop-meaning
decreases-loop-meaning l = length l.rest
