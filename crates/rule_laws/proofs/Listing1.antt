-- What an index of version 1 lists.
use Rattle.std.proofs.Common.{◌≡◌, ℕ, ◌+◌, ◌<◌, ◌≤◌, List, [], map, flat_map, refl, ◌∙◌, ap, arith}
use Rattle.std.specs.List.{range_with_len}
use Rattle.text_core.specs.declared.item.Item.{Item}
use Rattle.trie_nodes.specs.declared.entry.Entry.{Entry}
use Rattle.trie_nodes.specs.declared.node.Node.{Node}
use Rattle.trie_nodes.specs.Tree.{node_at, path}
use Rattle.trie_nodes.specs.Values.{Value, entry, listed, value_at, values_of}
use Rattle.trie_build.specs.Contents.{contents, node_of, value_of}
use Rattle.trie_build.specs.Header.{header_of}
use Rattle.trie_build.specs.Records.{node, text_of, value}
use Rattle.trie_build.specs.declared.index_fault.IndexFault.TheVariants.{Shape, Version}
use Rattle.trie_build.specs.declared.records.ValueRecord.{ValueRecord}
use Rattle.trie_build.proofs.CheckSums.{values_within}
use Rattle.trie_build.proofs.NodeLemmas.{length_nodes, node_is, value_is as listed_value_is}
use Rattle.rule_laws.specs.Version1.{Accepted1, entry_1, listed_1, node_1, nodes_1, text_1, value_1}
use Rattle.rule_laws.proofs.Reading1.{as_record, label_is, text_is, value_is}
use Rattle.rule_laws.proofs.Lists.{flat_range_same, map_range_same, mapped_range_same}

abbrev as_entry : List Item → List ℕ → List ℕ → ℕ → Entry
as_entry pattern key value order = record { pattern = pattern; key = key; value = value; order = order; file = []; line = 0 }

module _ (bytes : List ℕ) (first : Accepted1 bytes) where
  version : (header_of bytes).version ≡ 1
  version = first Version

  abbrev nodes : List Node
  nodes = (contents bytes).nodes

  abbrev values : List Value
  values = (contents bytes).values

  node_same : (i : ℕ) → node_of bytes i ≡ node_1 bytes i
  node_same i =
      ap (λ (x : Item). record {
        label = x;
        first = (node bytes i).first;
        count = (node bytes i).count;
        first_value = (node bytes i).first_value;
        values = (node bytes i).values;
      }) (label_is bytes version (node bytes i))

  pub nodes_are : nodes ≡ nodes_1 bytes
  unfolding contents
  nodes_are = map_range_same (node_of bytes) (node_1 bytes) 0 (header_of bytes).nodes (λ k from below. node_same k)

  -- a value as an entry, by the definitions for both versions
  value_reported : (pattern : List Item) (j : ℕ) → entry pattern (value_of bytes j) ≡ entry_1 bytes pattern j
  value_reported pattern j =
      let v = value_1 bytes j in
      ap (λ (r : ValueRecord). record {
        pattern = pattern;
        key = text_of bytes r.key;
        value = text_of bytes r.value;
        order = r.order;
        file = text_of bytes r.file;
        line = r.line;
      }) (value_is bytes version j)
      ∙ ap (λ (key : List ℕ). as_entry pattern key (text_of bytes (as_record v).value) v.order) (text_is bytes version v.key_place v.key_len)
      ∙ ap (λ (value : List ℕ). as_entry pattern (text_1 bytes v.key_place v.key_len) value v.order) (text_is bytes version v.value_place v.value_len)

  -- the entries of one node
  node_reported : (pattern : List Item) (i : ℕ) → i < (header_of bytes).nodes
      → map (entry pattern) (values_of nodes values i) ≡ map (entry_1 bytes pattern) (range_with_len (node bytes i).first_value (node bytes i).values)
  node_reported pattern i h =
      let own : node_at nodes i ≡ node_of bytes i = node_is bytes (contents bytes) refl i h in
      let among : (node bytes i).first_value + (node bytes i).values ≤ (header_of bytes).values = values_within bytes i (first Shape) h in
      ap (λ (n : Node). map (entry pattern) (map (value_at values) (range_with_len n.first_value n.values))) own
      ∙ mapped_range_same (entry pattern) (value_at values) (entry_1 bytes pattern) (node bytes i).first_value (node bytes i).values (λ j from below.
      ap (entry pattern) (listed_value_is bytes (contents bytes) refl j (omega (arith, among))) ∙ value_reported pattern j)

  pub lists_the_same : listed nodes values ≡ listed_1 bytes
  lists_the_same =
      ap (λ n. flat_map (λ i. map (entry (path nodes i)) (values_of nodes values i)) (range_with_len 0 n)) (length_nodes bytes (contents bytes) refl)
      ∙ flat_range_same
      (λ i. map (entry (path nodes i)) (values_of nodes values i))
      (λ i. map (entry_1 bytes (path nodes i)) (range_with_len (node bytes i).first_value (node bytes i).values))
      0 (header_of bytes).nodes (λ i from below. node_reported (path nodes i) i (omega arith))
      ∙ ap (λ (ns : List Node). flat_map (λ i. map (entry_1 bytes (path ns i)) (range_with_len (node bytes i).first_value (node bytes i).values)) (range_with_len 0 (header_of bytes).nodes)) nodes_are
