use Rattle.std.proofs.Common.{◌≤◌, ◌*◌, ◌+◌, length, subst, IfOk}
use Rattle.trie_build.proofs.trie.Trie.visits.Goals as goal

pub returns-clause-bound : goal.returns-clause-bound
returns-clause-bound c =
    subst (λ n. IfOk c.visits.result (λ r. r.1 ≤ n * (length c.args.modalias.now + 1))) c.known.ensures.held.count c.visits.ensures.bound
