-- What is written of a sound draft lists what the draft says.
use Rattle.std.proofs.Common.{◌≡◌, ℕ, ◌<◌, cond, eqb, List, length, map, get_or, refl, sym, ◌∙◌, ap, arith, inl, inr}
use Rattle.std.specs.List.{range_with_len}
use Rattle.std.proofs.lemmas.Bool.Decides.{eqb_tells}
use Rattle.std.proofs.lemmas.List.{length-map, get_or-map}
use Rattle.std.proofs.lemmas.List.FromFn.{fill_by_all}
use Rattle.text_core.specs.declared.item.Item.TheVariants.{Byte, One, Many, Among}
use Rattle.trie_nodes.specs.Tree.{nowhere}
use Rattle.trie_nodes.specs.Values.{no_value as no_listed}
use Rattle.trie_build.specs.Contents.{contents, label_of, node_of, value_of}
use Rattle.trie_build.specs.Header.{header_of}
use Rattle.trie_build.specs.Records.{node, value}
use Rattle.trie_build.specs.Sound.{IsSound, said, said_label, said_node, said_value}
use Rattle.trie_build.specs.Written.{Draft, IsWritable, SaysDraft, written}
use Rattle.trie_build.specs.declared.header.Header.{Header}
use Rattle.trie_build.specs.declared.records.NodeRecord.{NodeRecord}
use Rattle.trie_build.specs.declared.records.ValueRecord.{ValueRecord}
use Rattle.trie_build.proofs.Placement.{no_node, no_set, no_value, node_of_draft, set_of_draft, value_of_draft, written_says}

module _ (bytes : List ℕ) (d : Draft) (says : SaysDraft bytes d) (s : IsSound d) where
  node_count : (header_of bytes).nodes ≡ length d.nodes
  node_count = ap (λ (h : Header). h.nodes) says.header

  value_count : (header_of bytes).values ≡ length d.values
  value_count = ap (λ (h : Header). h.values) says.header

  -- a label of the draft, which names a set only if there is one
  label_said : (n : NodeRecord) → (n.kind ≡ 4 → n.set < length d.sets) → label_of bytes n ≡ said_label d.sets n
  label_said n within = elim (eqb_tells n.kind 4) [
    | inl e ↦ ap (λ x. cond (eqb n.kind 1) (Byte n.byte) (cond (eqb n.kind 3) Many (cond (eqb n.kind 4) (Among x) One))) (set_of_draft bytes d says n.set no_set (within e.1))
    | inr e ↦ rw e.0 refl
  ]

  node_said : (i : ℕ) → i < (header_of bytes).nodes → get_or (map (said_node d.sets) d.nodes) i nowhere ≡ node_of bytes i
  node_said i h =
      let inside : i < length d.nodes = omega (arith, node_count) in
      let own : NodeRecord = get_or d.nodes i no_node in
      let read : node bytes i ≡ own = node_of_draft bytes d says i no_node inside in
      let label : label_of bytes own ≡ said_label d.sets own = label_said own (s.labels i no_node inside).a_set in
      get_or-map (said_node d.sets) d.nodes i no_node nowhere inside
      ∙ ap (λ x. record { label = x; first = own.first; count = own.count; first_value = own.first_value; values = own.values }) (sym label)
      ∙ ap (λ (n : NodeRecord). record { label = label_of bytes n; first = n.first; count = n.count; first_value = n.first_value; values = n.values }) (sym read)

  value_said : (j : ℕ) → j < (header_of bytes).values → get_or (map (said_value d.text) d.values) j no_listed ≡ value_of bytes j
  value_said j h =
      let inside : j < length d.values = omega (arith, value_count) in
      let own : ValueRecord = get_or d.values j no_value in
      let read : value bytes j ≡ own = value_of_draft bytes d says j no_value inside in
      get_or-map (said_value d.text) d.values j no_value no_listed inside ∙ rw (read, says.text own.key, says.text own.value, says.text own.file) refl

  nodes_len : length (map (said_node d.sets) d.nodes) ≡ (header_of bytes).nodes
  nodes_len = simp length-map (sym node_count)

  values_len : length (map (said_value d.text) d.values) ≡ (header_of bytes).values
  values_len = simp length-map (sym value_count)

  pub contents_said : contents bytes ≡ said d
  unfolding contents
  contents_said =
      let nodes : map (said_node d.sets) d.nodes ≡ map (node_of bytes) (range_with_len 0 ((header_of bytes).nodes)) =
      fill_by_all (node_of bytes) (map (said_node d.sets) d.nodes) ((header_of bytes).nodes) nowhere nodes_len node_said in
      let values : map (said_value d.text) d.values ≡ map (value_of bytes) (range_with_len 0 ((header_of bytes).values)) =
      fill_by_all (value_of bytes) (map (said_value d.text) d.values) ((header_of bytes).values) no_listed values_len value_said in
      ap (λ ns. record { nodes = ns; values = map (value_of bytes) (range_with_len 0 ((header_of bytes).values)) }) (sym nodes)
      ∙ ap (λ vs. record { nodes = map (said_node d.sets) d.nodes; values = vs }) (sym values)

pub written_contents : (d : Draft) → IsWritable d → IsSound d → contents (written d) ≡ said d
written_contents d w s = contents_said (written d) d (written_says d w) s
