use Rattle.std.proofs.Common.{◌≡◌, ap, arith}
use Rattle.trie_build.specs.Header.{header_of}
use Rattle.trie_build.specs.declared.header.Header.{Header}
use Rattle.trie_build.proofs.CheckSums.{values_within}
use Rattle.trie_build.proofs.checks.has_orders.Goals as goal

pub orders_rise-requires-clause-within : goal.orders_rise-requires-clause-within
orders_rise-requires-clause-within c =
    let count : c.header-i-end.result.nodes ≡ (header_of c.args.records.now).nodes = ap (λ (h : Header). h.nodes) c.header-i-end.ensures.value in
    rw c.node.ensures (values_within c.args.records.now c.loop-i.i c.requires.shape (omega (arith, count)))
