use Rattle.std.proofs.Common.{◌≡◌, ℕ, ◌+◌, ◌++◌, List, length, map, take, flat_map, sym, ◌∙◌, ap, arith}
use Rattle.std.proofs.lemmas.List.FromFn.{length-map-range_with_len}
use Rattle.std.specs.List.{range_with_len}
use Rattle.trie_nodes.specs.declared.entry.Entry.{Entry}
use Rattle.trie_build.specs.Content.{Content, shown}
use Rattle.trie_build.specs.Held.{IsHeld, own_numbers}
use Rattle.trie_build.specs.Sizes.{KeepsBounds, names_of, sets_of}
use Rattle.trie_build.specs.Header.{header_bytes}
use Rattle.trie_build.specs.Records.{node_bytes, value_bytes}
use Rattle.trie_build.specs.Written.{draft_header}
use Rattle.trie_build.specs.Image.{all_names, draft_of, own_text}
use Rattle.trie_build.specs.Writing.{name_places, named, node_records, value_records}
use Rattle.trie_build.proofs.Meeting.{composed, header_reported, joined, need_after, need_lengths, need_name, need_names, need_set, need_sets, need_short, need_sum, need_values, need_within}
use Rattle.trie_build.proofs.Placing.{length_shown, text_reported}
use Rattle.trie_build.proofs.write.write_index.Goals as goal

pub texts_len-requires-clause-within : goal.texts_len-requires-clause-within
texts_len-requires-clause-within c =
    let t : Content = c.args.trie.now in
    let is : IsHeld t = c.entries-entries.ensures.held in
    let bounds : KeepsBounds t.entries = c.entries-entries.ensures.bounds in
    let sets : shown c.as_slice-sets.result.now ≡ sets_of t.entries = ap shown c.as_slice-sets.ensures.value ∙ c.in_ok-all_sets.ensures in
    let names : shown c.as_slice-names.result.now ≡ names_of t.entries = ap shown c.as_slice-names.ensures.value ∙ c.in_ok-all_names.ensures in
    let order : c.as_slice-order.result.now ≡ flat_map (own_numbers t.numbers) t.nodes =
    c.as_slice-order.ensures.value ∙ c.in_ok-numbers.ensures ∙ ap (λ l. flat_map (own_numbers l) c.nodes-nodes.result.now) c.numbers.ensures ∙ ap (flat_map (own_numbers t.numbers)) c.nodes-nodes.ensures in
    need_within t is bounds c.entries-entries.result.now c.nodes-nodes.result.now (shown c.as_slice-sets.result.now) (shown c.as_slice-names.result.now) c.as_slice-order.result.now c.entries-entries.ensures.value c.nodes-nodes.ensures sets names order

pub texts_len-requires-clause-short : goal.texts_len-requires-clause-short
texts_len-requires-clause-short c =
    let t : Content = c.args.trie.now in
    let is : IsHeld t = c.entries-entries.ensures.held in
    let bounds : KeepsBounds t.entries = c.entries-entries.ensures.bounds in
    let sets : shown c.as_slice-sets.result.now ≡ sets_of t.entries = ap shown c.as_slice-sets.ensures.value ∙ c.in_ok-all_sets.ensures in
    let names : shown c.as_slice-names.result.now ≡ names_of t.entries = ap shown c.as_slice-names.ensures.value ∙ c.in_ok-all_names.ensures in
    let order : c.as_slice-order.result.now ≡ flat_map (own_numbers t.numbers) t.nodes =
    c.as_slice-order.ensures.value ∙ c.in_ok-numbers.ensures ∙ ap (λ l. flat_map (own_numbers l) c.nodes-nodes.result.now) c.numbers.ensures ∙ ap (flat_map (own_numbers t.numbers)) c.nodes-nodes.ensures in
    need_short t is bounds c.entries-entries.result.now c.nodes-nodes.result.now (shown c.as_slice-sets.result.now) (shown c.as_slice-names.result.now) c.as_slice-order.result.now c.entries-entries.ensures.value c.nodes-nodes.ensures sets names order

pub places_of-requires : goal.places_of-requires
places_of-requires c =
    let t : Content = c.args.trie.now in
    let is : IsHeld t = c.entries-entries.ensures.held in
    let bounds : KeepsBounds t.entries = c.entries-entries.ensures.bounds in
    let sets : shown c.as_slice-sets.result.now ≡ sets_of t.entries = ap shown c.as_slice-sets.ensures.value ∙ c.in_ok-all_sets.ensures in
    let names : shown c.as_slice-names.result.now ≡ names_of t.entries = ap shown c.as_slice-names.ensures.value ∙ c.in_ok-all_names.ensures in
    let order : c.as_slice-order.result.now ≡ flat_map (own_numbers t.numbers) t.nodes =
    c.as_slice-order.ensures.value ∙ c.in_ok-numbers.ensures ∙ ap (λ l. flat_map (own_numbers l) c.nodes-nodes.result.now) c.numbers.ensures ∙ ap (flat_map (own_numbers t.numbers)) c.nodes-nodes.ensures in
    omega (arith, c.texts_len.ensures, need_after t is bounds c.entries-entries.result.now c.nodes-nodes.result.now (shown c.as_slice-sets.result.now) (shown c.as_slice-names.result.now) c.as_slice-order.result.now c.entries-entries.ensures.value c.nodes-nodes.ensures sets names order)

pub bounds-places-names : goal.bounds-places-names
bounds-places-names c =
    let at : ℕ → ℕ = λ k. c.texts_len.result + length (all_names (take k (shown c.as_slice-names.result.now))) in
    let count : ℕ = length c.as_slice-names.result.now + 1 in
    let len : length c.as_slice-places.result.now ≡ count = ap length (c.as_slice-places.ensures.value ∙ c.in_ok-name_places.ensures) ∙ length-map-range_with_len at 0 count in
    omega (arith, len)

pub header_of-header-requires-clause-values : goal.header_of-header-requires-clause-values
header_of-header-requires-clause-values c =
    let t : Content = c.args.trie.now in
    let is : IsHeld t = c.entries-entries.ensures.held in
    let bounds : KeepsBounds t.entries = c.entries-entries.ensures.bounds in
    let sets : shown c.as_slice-sets.result.now ≡ sets_of t.entries = ap shown c.as_slice-sets.ensures.value ∙ c.in_ok-all_sets.ensures in
    let names : shown c.as_slice-names.result.now ≡ names_of t.entries = ap shown c.as_slice-names.ensures.value ∙ c.in_ok-all_names.ensures in
    let order : c.as_slice-order.result.now ≡ flat_map (own_numbers t.numbers) t.nodes =
    c.as_slice-order.ensures.value ∙ c.in_ok-numbers.ensures ∙ ap (λ l. flat_map (own_numbers l) c.nodes-nodes.result.now) c.numbers.ensures ∙ ap (flat_map (own_numbers t.numbers)) c.nodes-nodes.ensures in
    need_values t is bounds c.entries-entries.result.now c.nodes-nodes.result.now (shown c.as_slice-sets.result.now) (shown c.as_slice-names.result.now) c.as_slice-order.result.now c.entries-entries.ensures.value c.nodes-nodes.ensures sets names order

pub push_nodes-requires-clause-values : goal.push_nodes-requires-clause-values
push_nodes-requires-clause-values c =
    let t : Content = c.args.trie.now in
    let is : IsHeld t = c.entries-entries.ensures.held in
    let bounds : KeepsBounds t.entries = c.entries-entries.ensures.bounds in
    let sets : shown c.as_slice-sets.result.now ≡ sets_of t.entries = ap shown c.as_slice-sets.ensures.value ∙ c.in_ok-all_sets.ensures in
    let names : shown c.as_slice-names.result.now ≡ names_of t.entries = ap shown c.as_slice-names.ensures.value ∙ c.in_ok-all_names.ensures in
    let order : c.as_slice-order.result.now ≡ flat_map (own_numbers t.numbers) t.nodes =
    c.as_slice-order.ensures.value ∙ c.in_ok-numbers.ensures ∙ ap (λ l. flat_map (own_numbers l) c.nodes-nodes.result.now) c.numbers.ensures ∙ ap (flat_map (own_numbers t.numbers)) c.nodes-nodes.ensures in
    need_sum t is bounds c.entries-entries.result.now c.nodes-nodes.result.now (shown c.as_slice-sets.result.now) (shown c.as_slice-names.result.now) c.as_slice-order.result.now c.entries-entries.ensures.value c.nodes-nodes.ensures sets names order

pub push_nodes-requires-clause-sets : goal.push_nodes-requires-clause-sets
push_nodes-requires-clause-sets c =
    let t : Content = c.args.trie.now in
    let is : IsHeld t = c.entries-entries.ensures.held in
    let bounds : KeepsBounds t.entries = c.entries-entries.ensures.bounds in
    let sets : shown c.as_slice-sets.result.now ≡ sets_of t.entries = ap shown c.as_slice-sets.ensures.value ∙ c.in_ok-all_sets.ensures in
    let names : shown c.as_slice-names.result.now ≡ names_of t.entries = ap shown c.as_slice-names.ensures.value ∙ c.in_ok-all_names.ensures in
    let order : c.as_slice-order.result.now ≡ flat_map (own_numbers t.numbers) t.nodes =
    c.as_slice-order.ensures.value ∙ c.in_ok-numbers.ensures ∙ ap (λ l. flat_map (own_numbers l) c.nodes-nodes.result.now) c.numbers.ensures ∙ ap (flat_map (own_numbers t.numbers)) c.nodes-nodes.ensures in
    need_sets t is bounds c.entries-entries.result.now c.nodes-nodes.result.now (shown c.as_slice-sets.result.now) (shown c.as_slice-names.result.now) c.as_slice-order.result.now c.entries-entries.ensures.value c.nodes-nodes.ensures sets names order

pub push_nodes-requires-clause-there : goal.push_nodes-requires-clause-there
push_nodes-requires-clause-there c =
    let t : Content = c.args.trie.now in
    let is : IsHeld t = c.entries-entries.ensures.held in
    let bounds : KeepsBounds t.entries = c.entries-entries.ensures.bounds in
    let sets : shown c.as_slice-sets.result.now ≡ sets_of t.entries = ap shown c.as_slice-sets.ensures.value ∙ c.in_ok-all_sets.ensures in
    let names : shown c.as_slice-names.result.now ≡ names_of t.entries = ap shown c.as_slice-names.ensures.value ∙ c.in_ok-all_names.ensures in
    let order : c.as_slice-order.result.now ≡ flat_map (own_numbers t.numbers) t.nodes =
    c.as_slice-order.ensures.value ∙ c.in_ok-numbers.ensures ∙ ap (λ l. flat_map (own_numbers l) c.nodes-nodes.result.now) c.numbers.ensures ∙ ap (flat_map (own_numbers t.numbers)) c.nodes-nodes.ensures in
    need_set t is bounds c.entries-entries.result.now c.nodes-nodes.result.now (shown c.as_slice-sets.result.now) (shown c.as_slice-names.result.now) c.as_slice-order.result.now c.entries-entries.ensures.value c.nodes-nodes.ensures sets names order

pub push_values-requires-clause-within : goal.push_values-requires-clause-within
push_values-requires-clause-within c =
    let t : Content = c.args.trie.now in
    let is : IsHeld t = c.entries-entries.ensures.held in
    let bounds : KeepsBounds t.entries = c.entries-entries.ensures.bounds in
    let sets : shown c.as_slice-sets.result.now ≡ sets_of t.entries = ap shown c.as_slice-sets.ensures.value ∙ c.in_ok-all_sets.ensures in
    let names : shown c.as_slice-names.result.now ≡ names_of t.entries = ap shown c.as_slice-names.ensures.value ∙ c.in_ok-all_names.ensures in
    let order : c.as_slice-order.result.now ≡ flat_map (own_numbers t.numbers) t.nodes =
    c.as_slice-order.ensures.value ∙ c.in_ok-numbers.ensures ∙ ap (λ l. flat_map (own_numbers l) c.nodes-nodes.result.now) c.numbers.ensures ∙ ap (flat_map (own_numbers t.numbers)) c.nodes-nodes.ensures in
    need_within t is bounds c.entries-entries.result.now c.nodes-nodes.result.now (shown c.as_slice-sets.result.now) (shown c.as_slice-names.result.now) c.as_slice-order.result.now c.entries-entries.ensures.value c.nodes-nodes.ensures sets names order

pub push_values-requires-clause-names : goal.push_values-requires-clause-names
push_values-requires-clause-names c =
    let t : Content = c.args.trie.now in
    let is : IsHeld t = c.entries-entries.ensures.held in
    let bounds : KeepsBounds t.entries = c.entries-entries.ensures.bounds in
    let sets : shown c.as_slice-sets.result.now ≡ sets_of t.entries = ap shown c.as_slice-sets.ensures.value ∙ c.in_ok-all_sets.ensures in
    let names : shown c.as_slice-names.result.now ≡ names_of t.entries = ap shown c.as_slice-names.ensures.value ∙ c.in_ok-all_names.ensures in
    let order : c.as_slice-order.result.now ≡ flat_map (own_numbers t.numbers) t.nodes =
    c.as_slice-order.ensures.value ∙ c.in_ok-numbers.ensures ∙ ap (λ l. flat_map (own_numbers l) c.nodes-nodes.result.now) c.numbers.ensures ∙ ap (flat_map (own_numbers t.numbers)) c.nodes-nodes.ensures in
    need_names t is bounds c.entries-entries.result.now c.nodes-nodes.result.now (shown c.as_slice-sets.result.now) (shown c.as_slice-names.result.now) c.as_slice-order.result.now c.entries-entries.ensures.value c.nodes-nodes.ensures sets names order

pub push_values-requires-clause-there : goal.push_values-requires-clause-there
push_values-requires-clause-there c =
    let t : Content = c.args.trie.now in
    let is : IsHeld t = c.entries-entries.ensures.held in
    let bounds : KeepsBounds t.entries = c.entries-entries.ensures.bounds in
    let sets : shown c.as_slice-sets.result.now ≡ sets_of t.entries = ap shown c.as_slice-sets.ensures.value ∙ c.in_ok-all_sets.ensures in
    let names : shown c.as_slice-names.result.now ≡ names_of t.entries = ap shown c.as_slice-names.ensures.value ∙ c.in_ok-all_names.ensures in
    let order : c.as_slice-order.result.now ≡ flat_map (own_numbers t.numbers) t.nodes =
    c.as_slice-order.ensures.value ∙ c.in_ok-numbers.ensures ∙ ap (λ l. flat_map (own_numbers l) c.nodes-nodes.result.now) c.numbers.ensures ∙ ap (flat_map (own_numbers t.numbers)) c.nodes-nodes.ensures in
    need_name t is bounds c.entries-entries.result.now c.nodes-nodes.result.now (shown c.as_slice-sets.result.now) (shown c.as_slice-names.result.now) c.as_slice-order.result.now c.entries-entries.ensures.value c.nodes-nodes.ensures sets names order

pub push_values-requires-clause-lengths : goal.push_values-requires-clause-lengths
push_values-requires-clause-lengths c =
    let t : Content = c.args.trie.now in
    let is : IsHeld t = c.entries-entries.ensures.held in
    let bounds : KeepsBounds t.entries = c.entries-entries.ensures.bounds in
    let sets : shown c.as_slice-sets.result.now ≡ sets_of t.entries = ap shown c.as_slice-sets.ensures.value ∙ c.in_ok-all_sets.ensures in
    let names : shown c.as_slice-names.result.now ≡ names_of t.entries = ap shown c.as_slice-names.ensures.value ∙ c.in_ok-all_names.ensures in
    let order : c.as_slice-order.result.now ≡ flat_map (own_numbers t.numbers) t.nodes =
    c.as_slice-order.ensures.value ∙ c.in_ok-numbers.ensures ∙ ap (λ l. flat_map (own_numbers l) c.nodes-nodes.result.now) c.numbers.ensures ∙ ap (flat_map (own_numbers t.numbers)) c.nodes-nodes.ensures in
    need_lengths t is bounds c.entries-entries.result.now c.nodes-nodes.result.now (shown c.as_slice-sets.result.now) (shown c.as_slice-names.result.now) c.as_slice-order.result.now c.entries-entries.ensures.value c.nodes-nodes.ensures sets names order

pub push_values-requires-clause-places : goal.push_values-requires-clause-places
push_values-requires-clause-places c =
    let at : ℕ → ℕ → ℕ = λ n k. n + length (all_names (take k (shown c.as_slice-names.result.now))) in
    let listed : List Entry = named c.entries-entries.result.now c.as_slice-order.result.now in
    let places : c.as_slice-places.result.now ≡ name_places listed (shown c.as_slice-names.result.now) =
    c.as_slice-places.ensures.value ∙ c.in_ok-name_places.ensures ∙ ap (λ n. map (at n) (range_with_len 0 (length c.as_slice-names.result.now + 1))) c.texts_len.ensures
    ∙ ap (λ m. map (at (length (flat_map own_text listed))) (range_with_len 0 (m + 1))) (sym (length_shown c.as_slice-names.result.now)) in
    places

pub push_texts-requires : goal.push_texts-requires
push_texts-requires c =
    let t : Content = c.args.trie.now in
    let is : IsHeld t = c.entries-entries.ensures.held in
    let bounds : KeepsBounds t.entries = c.entries-entries.ensures.bounds in
    let sets : shown c.as_slice-sets.result.now ≡ sets_of t.entries = ap shown c.as_slice-sets.ensures.value ∙ c.in_ok-all_sets.ensures in
    let names : shown c.as_slice-names.result.now ≡ names_of t.entries = ap shown c.as_slice-names.ensures.value ∙ c.in_ok-all_names.ensures in
    let order : c.as_slice-order.result.now ≡ flat_map (own_numbers t.numbers) t.nodes =
    c.as_slice-order.ensures.value ∙ c.in_ok-numbers.ensures ∙ ap (λ l. flat_map (own_numbers l) c.nodes-nodes.result.now) c.numbers.ensures ∙ ap (flat_map (own_numbers t.numbers)) c.nodes-nodes.ensures in
    need_within t is bounds c.entries-entries.result.now c.nodes-nodes.result.now (shown c.as_slice-sets.result.now) (shown c.as_slice-names.result.now) c.as_slice-order.result.now c.entries-entries.ensures.value c.nodes-nodes.ensures sets names order

pub returns : goal.returns
returns c =
    let t : Content = c.args.trie.now in
    let is : IsHeld t = c.entries-entries.ensures.held in
    let bounds : KeepsBounds t.entries = c.entries-entries.ensures.bounds in
    let sets : shown c.as_slice-sets.result.now ≡ sets_of t.entries = ap shown c.as_slice-sets.ensures.value ∙ c.in_ok-all_sets.ensures in
    let names : shown c.as_slice-names.result.now ≡ names_of t.entries = ap shown c.as_slice-names.ensures.value ∙ c.in_ok-all_names.ensures in
    let order : c.as_slice-order.result.now ≡ flat_map (own_numbers t.numbers) t.nodes =
    c.as_slice-order.ensures.value ∙ c.in_ok-numbers.ensures ∙ ap (λ l. flat_map (own_numbers l) c.nodes-nodes.result.now) c.numbers.ensures ∙ ap (flat_map (own_numbers t.numbers)) c.nodes-nodes.ensures in
    let at : ℕ → ℕ → ℕ = λ n k. n + length (all_names (take k (shown c.as_slice-names.result.now))) in
    let listed : List Entry = named c.entries-entries.result.now c.as_slice-order.result.now in
    let places : c.as_slice-places.result.now ≡ name_places listed (shown c.as_slice-names.result.now) =
    c.as_slice-places.ensures.value ∙ c.in_ok-name_places.ensures ∙ ap (λ n. map (at n) (range_with_len 0 (length c.as_slice-names.result.now + 1))) c.texts_len.ensures
    ∙ ap (λ m. map (at (length (flat_map own_text listed))) (range_with_len 0 (m + 1))) (sym (length_shown c.as_slice-names.result.now)) in
    let shown_sets : List (List ℕ) = shown c.as_slice-sets.result.now in
    let shown_names : List (List ℕ) = shown c.as_slice-names.result.now in
    let header : c.header_of-header.result ≡ draft_header (draft_of t.entries) =
    c.header_of-header.ensures
    ∙ header_reported t is bounds c.entries-entries.result.now c.nodes-nodes.result.now (shown c.as_slice-sets.result.now) (shown c.as_slice-names.result.now) c.as_slice-order.result.now c.entries-entries.ensures.value c.nodes-nodes.ensures sets names order
    _ (length c.as_slice-sets.result.now) (text_reported listed shown_names c.as_slice-places.result.now (length c.as_slice-names.result.now) 0 places (sym (length_shown c.as_slice-names.result.now))) (sym (length_shown c.as_slice-sets.result.now)) in
    joined c.write.new.out.items c.push_nodes.new.out.items c.push_values.new.out.items c.push_all.new.out.items c.push_texts.new.out.items c.push_all-2.new.out.items
    (header_bytes c.header_of-header.result) (flat_map node_bytes (node_records shown_sets c.nodes-nodes.result.now)) (flat_map value_bytes (value_records listed shown_names)) (all_names shown_sets) (flat_map own_text listed) (all_names shown_names)
    c.in_ok-push_all-2.ensures c.in_ok-push_texts.ensures c.in_ok-push_all.ensures c.in_ok-push_values.ensures c.in_ok-push_nodes.ensures
    (c.in_ok-write.ensures.header ∙ ap (λ l. l ++ header_bytes c.header_of-header.result) c.in_ok-out.ensures.items)
    ∙ composed t is bounds c.entries-entries.result.now c.nodes-nodes.result.now (shown c.as_slice-sets.result.now) (shown c.as_slice-names.result.now) c.as_slice-order.result.now c.entries-entries.ensures.value c.nodes-nodes.ensures sets names order (header_bytes c.header_of-header.result) (ap header_bytes header)
