use Rattle.std.proofs.Common.{◌≡◌, ◌+◌, length, take}
use Rattle.std.specs.List.{sum_by}
use Rattle.trie_nodes.specs.Bounds.{max_name_bytes}
use Rattle.hwdb_core.proofs.database.names_fit.Given as goal

abbrev pub invariant-loop-file : goal.invariant-loop-file
invariant-loop-file l = l.room + sum_by (λ f. length f.name) (take l.file-index l.files) ≡ max_name_bytes
