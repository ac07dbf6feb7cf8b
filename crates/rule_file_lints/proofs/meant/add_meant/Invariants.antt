use Rattle.rule_file_lints.proofs.Meaning.{MeantDown}
use Rattle.rule_file_lints.proofs.meant.add_meant.Given as goal

abbrev pub invariant-loop-token : goal.invariant-loop-token
invariant-loop-token l = MeantDown l.compared l.initial.spots.items l.spots.items l.tokens l.following l.token-index
