use Rattle.trie_build.specs.Paths.{paths_among}
use Rattle.trie_build.proofs.Later.{later}
use Rattle.trie_build.proofs.Paths.{count_children, paths_tree}
use Rattle.rule_laws.proofs.paths.paths_are_a_tree.Goals as goal

pub returns : goal.returns
returns c = record { tree = paths_tree; children = count_children; later = λ ps i h. later (paths_among ps) (paths_tree ps) i h }
