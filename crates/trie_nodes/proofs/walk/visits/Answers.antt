use Rattle.std.proofs.Common.{◌≡◌, ℕ, ◌+◌, List, [], length, take, ap, ◌∙◌, arith, zero-add, vec_len, rules}
use Rattle.std.proofs.lemmas.List.FromFn.{sum_by-map-range_with_len_more}
use Rattle.trie_nodes.specs.declared.node.Node.{Node}
use Rattle.trie_nodes.specs.Tree.{active_after, count_within}
use Rattle.trie_nodes.proofs.Stepping.{at_most_all}
use Rattle.trie_nodes.proofs.walk.visits.Goals as goal

pub loop-at-init : goal.loop-at-init
loop-at-init g c =
    let e : c.len-sum.result ≡ length (active_after (g.N.Nodes.nodes c.args.nodes.now) []) = (let k : vec_len c.in_ok-active.active ≡ length c.in_ok-active.active.items = search rules in c.len-sum.ensures ∙ k) ∙ ap length c.in_ok-active.ensures.active in
    record {
      active = c.in_ok-active.ensures.active;
      count = omega (arith, e);
      small = omega arith;
      bound = omega (arith, e, at_most_all (g.N.Nodes.nodes c.args.nodes.now) []);
    }

pub loop-at-preserved : goal.loop-at-preserved
loop-at-preserved g c =
    let nodes : List Node = (g.N.Nodes.nodes c.args.nodes.now) in
    let m : List ℕ = c.args.modalias.now in
    let n : ℕ = c.loop-at.at in
    let e : c.len.result ≡ length (active_after nodes (take (n + 1) m)) = (let k : vec_len c.advance.new.walk.active ≡ length c.advance.new.walk.active.items = search rules in c.len.ensures ∙ k) ∙ ap length c.in_ok-advance.ensures in
    let more : count_within nodes m (n + 1) ≡ count_within nodes m n + length (active_after nodes (take (n + 1) m)) =
    sum_by-map-range_with_len_more length (λ j. active_after nodes (take j m)) 0 (n + 1) (n + 1) (zero-add (n + 1)) in
    record {
      active = c.in_ok-advance.ensures;
      count = omega (arith, e, more, c.loop-at.invariant.count);
      small = omega arith;
      bound = omega (arith, e, c.loop-at.invariant.bound, at_most_all nodes (take (n + 1) m));
    }
