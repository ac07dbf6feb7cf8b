-- The nodes that an index lists are a tree.
use Rattle.std.proofs.Common.{◌≡◌, ℕ, zero, suc, ◌+◌, ◌<◌, ◌≤◌, List, length, take, map, sym, ◌∙◌, ap, arith, zero-add, refl}
use Rattle.std.specs.List.{range_with_len, sum_by, sum}
use Rattle.std.proofs.lemmas.List.FromFn.{length-map-range_with_len, get_or-map-range_with_len, take-map-range_with_len, sum_by-map-range_with_len_more}
use Rattle.text_core.specs.declared.item.Item.TheVariants.{One}
use Rattle.trie_nodes.specs.declared.node.Node.{Node}
use Rattle.trie_nodes.specs.Tree.{Shape, node_at, nowhere}
use Rattle.trie_nodes.specs.Values.{no_value, value_at}
use Rattle.trie_build.specs.Accepted.{Accepted, children_before}
use Rattle.trie_build.specs.Contents.{Contents, contents, node_of, label_of, value_of}
use Rattle.trie_build.specs.Header.{header_of}
use Rattle.trie_build.specs.Records.{node}
use Rattle.trie_build.specs.declared.index_fault.IndexFault.TheVariants.{Shape as ShapeCheck, Label as LabelCheck, Size as SizeCheck}
use Rattle.trie_build.proofs.LabelLemmas.{label_one}
use Rattle.trie_build.proofs.Sums.{sum_prefix}
use Rattle.trie_build.proofs.CheckSums.{sum_more}

-- a sum over the numbers below i, of what the nodes have
sums : (f : Node → ℕ) (g : ℕ → Node) (i : ℕ) → sum_by f (map g (range_with_len 0 i)) ≡ sum (map (λ k. f (g k)) (range_with_len 0 i))
sums f g zero = refl
sums f g (suc i) =
    let step : sum_by f (map g (range_with_len 0 (i + 1))) ≡ sum_by f (map g (range_with_len 0 i)) + f (g i) = sum_by-map-range_with_len_more f g 0 i i (zero-add i) in
    let same : i + 1 ≡ suc i = omega arith in
    rw same at (step ∙ ap (λ n. n + f (g i)) (sums f g i) ∙ sym (sum_more (λ k. f (g k)) i))

module _ (bytes : List ℕ) (v : Contents) (says : contents bytes ≡ v) where
  pub length_nodes : length v.nodes ≡ (header_of bytes).nodes
  unfolding contents
  length_nodes = ap (λ (w : Contents). length w.nodes) (sym says) ∙ length-map-range_with_len (node_of bytes) 0 ((header_of bytes).nodes)

  pub node_is : (i : ℕ) → i < (header_of bytes).nodes → node_at v.nodes i ≡ node_of bytes i
  unfolding contents
  node_is i h = ap (λ (w : Contents). node_at w.nodes i) (sym says) ∙ get_or-map-range_with_len (node_of bytes) 0 ((header_of bytes).nodes) i i nowhere h (zero-add i)

  before : (i : ℕ) → i ≤ (header_of bytes).nodes → sum_by (λ (n : Node). n.count) (take i v.nodes) ≡ children_before bytes i
  unfolding contents
  before i h =
      ap (λ (w : Contents). sum_by (λ (n : Node). n.count) (take i w.nodes)) (sym says)
      ∙ ap (sum_by (λ (n : Node). n.count)) (take-map-range_with_len (node_of bytes) 0 ((header_of bytes).nodes) i h)
      ∙ sums (λ (n : Node). n.count) (node_of bytes) i

  all : sum_by (λ (n : Node). n.count) v.nodes ≡ children_before bytes ((header_of bytes).nodes)
  unfolding contents
  all = ap (λ (w : Contents). sum_by (λ (n : Node). n.count) w.nodes) (sym says) ∙ sums (λ (n : Node). n.count) (node_of bytes) ((header_of bytes).nodes)

  -- the root has a label that is not a star
  module _ (accepted : Accepted bytes) where
    root_is : label_of bytes (node bytes 0) ≡ One
    root_is =
        let some : 0 < (header_of bytes).nodes = (accepted SizeCheck).some in
        let kind : (node bytes 0).kind ≡ 0 = (accepted LabelCheck 0 some).root.1 refl in
        label_one bytes (node bytes 0) (λ e. absurd (omega arith)) (λ e. absurd (omega arith)) (λ e. absurd (omega arith))

    pub tree : Shape v.nodes
    tree = record {
      first = λ i h. let inside : i < (header_of bytes).nodes = omega (arith, length_nodes) in
          ap (λ (n : Node). n.first) (node_is i inside) ∙ ((accepted ShapeCheck).each i inside).first ∙ ap (λ n. 1 + n) (sym (before i (omega arith)));
      later = λ i h. let inside : i < (header_of bytes).nodes = omega (arith, length_nodes) in
          let far : i < (node bytes i).first = ((accepted ShapeCheck).each i inside).later in
          rw (node_is i inside) far;
      all = omega (arith, all, length_nodes, (accepted ShapeCheck).children);
      root = let inside : 0 < (header_of bytes).nodes = (accepted SizeCheck).some in
          ap (λ (n : Node). n.label) (node_is 0 inside) ∙ root_is;
    }

module _ (bytes : List ℕ) (v : Contents) (says : contents bytes ≡ v) where
  pub length_values : length v.values ≡ (header_of bytes).values
  unfolding contents
  length_values = ap (λ (w : Contents). length w.values) (sym says) ∙ length-map-range_with_len (value_of bytes) 0 ((header_of bytes).values)

  pub value_is : (j : ℕ) → j < (header_of bytes).values → value_at v.values j ≡ value_of bytes j
  unfolding contents
  value_is j h = ap (λ (w : Contents). value_at w.values j) (sym says) ∙ get_or-map-range_with_len (value_of bytes) 0 ((header_of bytes).values) j j no_value h (zero-add j)

-- a node's children are among all
pub children_within : (nodes : List Node) (i : ℕ) → Shape nodes → i < length nodes → (node_at nodes i).first + (node_at nodes i).count ≤ length nodes
children_within nodes i s h = omega (arith, s.first i h, s.all, sum_prefix (λ (n : Node). n.count) nodes i nowhere h)
