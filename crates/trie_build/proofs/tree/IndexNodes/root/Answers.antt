use Rattle.trie_build.proofs.NodeLemmas.{tree}
use Rattle.trie_build.proofs.tree.IndexNodes.root.Goals as goal

pub returns-clause-tree : goal.returns-clause-tree
returns-clause-tree c = tree c.self.inside.records c.args.self.now c.self.view_is c.self.invariant
