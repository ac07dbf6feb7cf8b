-- A sound draft is written as an index.
use Rattle.std.proofs.Common.{◌≡◌, ℕ, zero, suc, ◌+◌, ◌<◌, ◌≤◌, List, length, get_or, refl, ◌∙◌, ap, arith, inr, subst}
use Rattle.std.proofs.lemmas.List.Sums.{sum_by_more}
use Rattle.trie_build.specs.Accepted.{Accepted, HasShape, HasTexts, OrdersRise, IsInPlace, IsLabelled, Holds, children_before, values_before}
use Rattle.trie_build.specs.Header.{header_of}
use Rattle.trie_build.specs.Records.{node, value}
use Rattle.trie_build.specs.Sound.{IsSound, first_children, first_values}
use Rattle.trie_build.specs.Written.{Draft, IsWritable, SaysDraft, written}
use Rattle.trie_build.specs.declared.index_fault.IndexFault.TheVariants.{Short, Magic, Version, Size, Shape, Label, Text, Order}
use Rattle.trie_build.specs.declared.header.Header.{Header}
use Rattle.trie_build.specs.declared.records.NodeRecord.{NodeRecord}
use Rattle.trie_build.proofs.Placement.{no_node, no_value, node_of_draft, value_of_draft, written_says}
use Rattle.trie_build.proofs.CheckSums.{children_more, values_more, values_within}

-- some bytes say what a draft says
module _ (bytes : List ℕ) (d : Draft) (says : SaysDraft bytes d) where
  node_count : (header_of bytes).nodes ≡ length d.nodes
  node_count = ap (λ (h : Header). h.nodes) says.header

  value_count : (header_of bytes).values ≡ length d.values
  value_count = ap (λ (h : Header). h.values) says.header

  set_count : (header_of bytes).sets ≡ length d.sets
  set_count = ap (λ (h : Header). h.sets) says.header

  text_len : (header_of bytes).text ≡ length d.text
  text_len = ap (λ (h : Header). h.text) says.header

  own : (i : ℕ) → i < length d.nodes → node bytes i ≡ get_or d.nodes i no_node
  own i h = node_of_draft bytes d says i no_node h

  children_are : (i : ℕ) → i ≤ length d.nodes → children_before bytes i ≡ first_children d i
  children_are zero h = refl
  children_are (suc i) h =
      let inside : i < length d.nodes = omega arith in
      let left : children_before bytes (i + 1) ≡ children_before bytes i + (node bytes i).count = children_more bytes i in
      let right : first_children d (i + 1) ≡ first_children d i + (get_or d.nodes i no_node).count = sum_by_more (λ (n : NodeRecord). n.count) d.nodes i no_node inside in
      let count : (node bytes i).count ≡ (get_or d.nodes i no_node).count = ap (λ (n : NodeRecord). n.count) (own i inside) in
      let so_far : children_before bytes i ≡ first_children d i = children_are i (omega arith) in
      let whole : children_before bytes (i + 1) ≡ first_children d (i + 1) = omega (arith, left, right, count, so_far) in
      let same : i + 1 ≡ suc i = omega arith in
      subst (λ k. children_before bytes k ≡ first_children d k) same whole

  values_are : (i : ℕ) → i ≤ length d.nodes → values_before bytes i ≡ first_values d i
  values_are zero h = refl
  values_are (suc i) h =
      let inside : i < length d.nodes = omega arith in
      let left : values_before bytes (i + 1) ≡ values_before bytes i + (node bytes i).values = values_more bytes i in
      let right : first_values d (i + 1) ≡ first_values d i + (get_or d.nodes i no_node).values = sum_by_more (λ (n : NodeRecord). n.values) d.nodes i no_node inside in
      let count : (node bytes i).values ≡ (get_or d.nodes i no_node).values = ap (λ (n : NodeRecord). n.values) (own i inside) in
      let so_far : values_before bytes i ≡ first_values d i = values_are i (omega arith) in
      let whole : values_before bytes (i + 1) ≡ first_values d (i + 1) = omega (arith, left, right, count, so_far) in
      let same : i + 1 ≡ suc i = omega arith in
      subst (λ k. values_before bytes k ≡ first_values d k) same whole

  module _ (s : IsSound d) (short : Holds Short bytes) (magic : Holds Magic bytes) where
    in_place : (i : ℕ) → i < (header_of bytes).nodes → IsInPlace i (children_before bytes i) (values_before bytes i) (node bytes i)
    in_place i h =
        let inside : i < length d.nodes = omega (arith, node_count) in
        rw (children_are i (omega arith), values_are i (omega arith), own i inside) (s.in_place i no_node inside)

    labelled : (i : ℕ) → i < (header_of bytes).nodes → IsLabelled ((header_of bytes).sets) i (node bytes i)
    labelled i h =
        let inside : i < length d.nodes = omega (arith, node_count) in
        rw (set_count, own i inside) (s.labels i no_node inside)

    with_texts : (j : ℕ) → j < (header_of bytes).values → HasTexts ((header_of bytes).text) (value bytes j)
    with_texts j h =
        let inside : j < length d.values = omega (arith, value_count) in
        rw (text_len, value_of_draft bytes d says j no_value inside) (s.texts j no_value inside)

    shaped : HasShape bytes
    shaped = record {
      each = in_place;
      children = rw node_count (rw (children_are (length d.nodes) (omega arith)) s.children);
      values = rw (node_count, value_count) (values_are (length d.nodes) (omega arith) ∙ s.all_values);
    }

    ordered : (i : ℕ) → i < (header_of bytes).nodes → OrdersRise bytes (node bytes i)
    ordered i h j low high =
        let inside : i < length d.nodes = omega (arith, node_count) in
        let among : (node bytes i).first_value + (node bytes i).values ≤ (header_of bytes).values = values_within bytes i shaped h in
        let here : j < length d.values = omega (arith, value_count) in
        let next : j + 1 < length d.values = omega (arith, value_count) in
        let from : (get_or d.nodes i no_node).first_value ≤ j = rw (own i inside) at low in
        let to : j + 1 < (get_or d.nodes i no_node).first_value + (get_or d.nodes i no_node).values = rw (own i inside) at high in
        rw (value_of_draft bytes d says j no_value here, value_of_draft bytes d says (j + 1) no_value next) (s.orders i j no_node no_value inside from to)

    pub accepted : Accepted bytes
    accepted Short = short
    accepted Magic = magic
    accepted Version = inr (ap (λ (h : Header). h.version) says.header)
    accepted Size = record {
      some = omega (arith, node_count, s.some);
      nodes = omega (arith, node_count, s.nodes);
      values = omega (arith, value_count, s.values);
      sets = omega (arith, set_count, s.sets);
      reserved = ap (λ (h : Header). h.reserved) says.header;
      whole = says.whole;
    }
    accepted Shape = shaped
    accepted Label = labelled
    accepted Text = with_texts
    accepted Order = ordered

pub written_accepted : (d : Draft) → IsWritable d → IsSound d → Accepted (written d)
unfolding written
written_accepted d w s = accepted (written d) d (written_says d w) s (omega arith) refl
