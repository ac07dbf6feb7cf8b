use Rattle.std.proofs.Common.{◌≡◌, subst, IfOk}
use Rattle.trie_nodes.specs.Query.{shown}
use Rattle.trie_build.proofs.Holding.{query_is}
use Rattle.trie_build.proofs.trie.TrieLookup.query.Goals as goal

pub returns : goal.returns
returns c =
    subst (λ q. IfOk c.query.result (λ found. shown found.items ≡ q)) (query_is c.args.self.now c.known.ensures.held c.args.modalias.now) c.query.ensures
