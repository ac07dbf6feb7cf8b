-- What a trie holds, said of its fields.
use Rattle.std.proofs.Common.{◌≡◌, ℕ, ◌+◌, ◌<◌, ◌≤◌, ◌^◌, List, length, map, get_or, sym, subst, ap, ◌∙◌, arith}
use Rattle.std.proofs.lemmas.List.{get_or_default, length-map}
use Rattle.trie_nodes.specs.Bounds.{max_entries}
use Rattle.trie_nodes.specs.Query.{origin, property, query, sourced}
use Rattle.trie_nodes.specs.declared.entry.Entry.{Entry}
use Rattle.trie_nodes.specs.Tree.{node_at, nowhere}
use Rattle.trie_nodes.specs.Values.{bare, listed, value_at}
use Rattle.trie_nodes.specs.declared.node.Node.{Node}
use Rattle.trie_build.specs.Content.{Content, all_values, entry_at, no_entry, value_of}
use Rattle.trie_build.specs.Held.{IsHeld}
use Rattle.trie_build.proofs.Answering.{listed_answers, number_within, value_reported}

module _ (t held : Content) (view : t ≡ held) (is : IsHeld held) where
  pub value_inside : (j : ℕ) → j < length (all_values t) → j < length held.numbers
  value_inside j h =
      let len : length (all_values t) ≡ length t.numbers = simp length-map in
      let same : length t.numbers ≡ length held.numbers = ap (λ (c : Content). length c.numbers) view in
      omega (arith, len, same)

  pub entry_inside : (j n : ℕ) → j < length (all_values t) → n ≡ get_or held.numbers j n → n < length held.entries
  entry_inside j n h e =
      let inside : j < length held.numbers = value_inside j h in
      subst (λ k. k < length held.entries) (sym (e ∙ get_or_default held.numbers j n 0 inside)) (number_within held is j inside)

  pub value_is : (j n : ℕ) (x : Entry) → j < length (all_values t) → n ≡ get_or held.numbers j n → x ≡ get_or held.entries n x → bare (value_of x) ≡ bare (value_at (all_values t) j)
  value_is j n x h e f =
      let inside : j < length held.numbers = value_inside j h in
      let number : n ≡ get_or held.numbers j 0 = e ∙ get_or_default held.numbers j n 0 inside in
      let own : x ≡ entry_at held.entries (get_or held.numbers j 0) = f ∙ get_or_default held.entries n x no_entry (entry_inside j n h e) ∙ ap (λ k. get_or held.entries k no_entry) number in
      ap (λ y. bare (value_of y)) own ∙ ap bare (sym (value_reported held is j inside)) ∙ ap (λ (c : Content). bare (value_at (all_values c) j)) (sym view)

  pub span_small : (i : ℕ) (n : Node) → i < length t.nodes → n ≡ get_or held.nodes i n → length held.numbers ≤ max_entries → n.first_value + n.values < 2 ^ 32
  span_small i n h e few =
      let inside : i < length held.nodes = subst (λ (c : Content). i < length c.nodes) view h in
      let own : n ≡ node_at held.nodes i = e ∙ get_or_default held.nodes i n nowhere inside in
      let first : n.first_value ≡ (node_at held.nodes i).first_value = ap (λ (m : Node). m.first_value) own in
      let values : n.values ≡ (node_at held.nodes i).values = ap (λ (m : Node). m.values) own in
      omega (arith, first, values, is.within i inside, few)

module _ (t : Content) (is : IsHeld t) (m : List ℕ) where
  pub query_is : query (listed t.nodes (all_values t)) m ≡ query t.entries m
  query_is = ap (map property) (listed_answers t is m)

  pub sources_are : sourced (listed t.nodes (all_values t)) m ≡ sourced t.entries m
  sources_are = ap (map origin) (listed_answers t is m)
