use Rattle.std.proofs.Common.{◌≡◌, take, flat_map}
use Rattle.trie_nodes.specs.Query.{shown}
use Rattle.engine_reports.specs.Answers.{pair_line}
use Rattle.engine_reports.proofs.answers.pair_lines.Given as goal

abbrev pub invariant-loop-key : goal.invariant-loop-key
invariant-loop-key l = l.text.items ≡ flat_map pair_line (shown (take l.key-index l.pairs))
