use Rattle.std.proofs.Common.{◌≡◌, map, subst, IfOk}
use Rattle.trie_nodes.specs.Query.{shown_origin}
use Rattle.trie_build.proofs.Holding.{sources_are}
use Rattle.trie_build.proofs.trie.TrieLookup.query_sources.Goals as goal

pub returns : goal.returns
returns c =
    subst (λ q. IfOk c.query_sources.result (λ found. map shown_origin found.items ≡ q)) (sources_are c.args.self.now c.known.ensures.held c.args.modalias.now) c.query_sources.ensures
