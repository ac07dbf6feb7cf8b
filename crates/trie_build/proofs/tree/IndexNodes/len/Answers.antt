use Rattle.std.proofs.Common.{sym, ◌∙◌, ap}
use Rattle.trie_build.specs.declared.header.Header.{Header}
use Rattle.trie_build.proofs.NodeLemmas.{length_nodes}
use Rattle.trie_build.proofs.tree.IndexNodes.len.Goals as goal

pub returns : goal.returns
returns c = ap (λ (h : Header). h.nodes) c.header.ensures.value ∙ sym (length_nodes c.self.inside.records c.args.self.now c.self.view_is)
