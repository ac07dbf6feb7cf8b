use Rattle.std.proofs.Common.{◌≡◌, take, map, flat_map}
use Rattle.trie_nodes.specs.Query.{shown_origin}
use Rattle.engine_reports.specs.Answers.{origin_line}
use Rattle.engine_reports.proofs.answers.origin_lines.Given as goal

abbrev pub invariant-loop-property : goal.invariant-loop-property
invariant-loop-property l = l.text.items ≡ flat_map origin_line (map shown_origin (take l.property-index l.found))
