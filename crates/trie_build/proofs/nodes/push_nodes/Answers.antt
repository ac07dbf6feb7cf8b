use Rattle.std.proofs.Common.{◌≡◌, ℕ, ◌+◌, ◌<◌, ◌≤◌, ◌++◌, List, eqb, length, take, map, flat_map, ◌∙◌, ap, arith}
use Rattle.std.proofs.lemmas.List.Sums.{sum_by_more}
use Rattle.std.specs.List.{range_with_len, sum_by}
use Rattle.trie_nodes.specs.Tree.{node_at, nowhere}
use Rattle.trie_nodes.specs.declared.node.Node.{Node}
use Rattle.trie_build.specs.Records.{node_bytes}
use Rattle.trie_build.specs.declared.records.NodeRecord.{NodeRecord}
use Rattle.trie_build.proofs.Sums.{sum_prefix}
use Rattle.trie_build.specs.Content.{shown}
use Rattle.trie_build.specs.Writing.{node_record, record_of}
use Rattle.trie_build.proofs.Parts.{one_more, pieces_more}
use Rattle.trie_build.proofs.nodes.push_nodes.Goals as goal

pub overflow_add-first_value : goal.overflow_add-first_value
overflow_add-first_value c =
    let nodes : List Node = c.args.nodes.now in
    let inside : c.loop-i.i < length nodes = omega arith in
    let prefix : sum_by (λ (n : Node). n.values) (take c.loop-i.i nodes) + (node_at nodes c.loop-i.i).values ≤ sum_by (λ (n : Node). n.values) nodes = sum_prefix (λ (n : Node). n.values) nodes c.loop-i.i nowhere inside in
    omega (arith, prefix, c.loop-i.invariant.first, c.requires.values)

pub loop-i-preserved : goal.loop-i-preserved
loop-i-preserved c =
    let nodes : List Node = c.args.nodes.now in
    let sets : List (List ℕ) = shown c.args.sets.now in
    let i : ℕ = c.loop-i.i in
    let inside : i < length nodes = omega arith in
    let own : c.record_of.result ≡ node_record sets nodes i = c.record_of.ensures ∙ ap (λ n. record_of sets (eqb i 0) n (node_at nodes i)) c.loop-i.invariant.first in
    let more : sum_by (λ (n : Node). n.values) (take (i + 1) nodes) ≡ sum_by (λ (n : Node). n.values) (take i nodes) + (node_at nodes i).values = sum_by_more (λ (n : Node). n.values) nodes i nowhere inside in
    record {
      out = one_more c.write.new.out.items c.loop-i.out.items c.args.out.now.items (flat_map node_bytes (map (node_record sets nodes) (range_with_len 0 i)))
          (flat_map node_bytes (map (node_record sets nodes) (range_with_len 0 (i + 1)))) (node_bytes (node_record sets nodes i))
          (c.in_ok-write.ensures.node ∙ ap (λ (r : NodeRecord). c.loop-i.out.items ++ node_bytes r) own) c.loop-i.invariant.out (pieces_more node_bytes (node_record sets nodes) i);
      first = omega (arith, more, c.loop-i.invariant.first);
    }
