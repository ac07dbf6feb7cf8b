-- The texts that an index answers with are in its bytes.
use Rattle.std.proofs.Common.{◌≡◌, ℕ, ◌+◌, List, ◌∷◌, [], ◌++◌, take, drop, map, refl, sym, inl, inr, ◌∙◌, ap, subst, arith, append_assoc}
use Rattle.std.specs.List.{All}
use Rattle.std.proofs.Math.ListN.{get_or-eq_default}
use Rattle.std.proofs.lemmas.Bool.Decides.{leb_tells}
use Rattle.std.proofs.lemmas.List.{take-append-drop}
use Rattle.std.proofs.lemmas.List.Elements.{All-map, All-weaker}
use Rattle.std.specs.List.{range_with_len}
use Rattle.trie_nodes.specs.Query.{origin, property, query, sourced, winners}
use Rattle.trie_nodes.specs.Winning.{Counts}
use Rattle.trie_nodes.specs.declared.entry.Entry.{Entry}
use Rattle.trie_nodes.proofs.Counting.{winners_answer}
use Rattle.trie_nodes.specs.Tree.{node_at, numbers, path}
use Rattle.trie_nodes.specs.Values.{Value, entry, listed, no_value, value_at, values_of}
use Rattle.trie_build.specs.Distinct.{IsIn}
use Rattle.trie_build.proofs.Distinguishing.{append_right, in_flat_map, in_map}
use Rattle.trie_build.specs.Contents.{Contents, contents, value_of}
use Rattle.trie_build.specs.Header.{header_of, text_start}
use Rattle.trie_build.specs.Records.{text_of, value}
use Rattle.trie_build.specs.declared.records.Span.{Span}
use Rattle.trie_build.proofs.NodeLemmas.{length_values, value_is}
use Rattle.rule_laws.specs.Parts.{IsFoundIn, IsPartOf}

module _ (bytes : List ℕ) where
  text_in_place : (s : Span) → IsPartOf bytes (text_of bytes s)
  text_in_place s =
      let from : ℕ = text_start (header_of bytes) + s.place in
      record {
        before = take from bytes;
        following = drop s.len (drop from bytes);
        whole =
            sym (append_assoc (take from bytes) (take s.len (drop from bytes)) (drop s.len (drop from bytes))
            ∙ ap (λ (l : List ℕ). take from bytes ++ l) (take-append-drop s.len (drop from bytes)) ∙ take-append-drop from bytes);
      }

  nothing_in_place : IsPartOf bytes []
  nothing_in_place = record { before = []; following = bytes; whole = refl }

  -- the texts of a value
  record IsPresent (v : Value) : Type 0 where
    key : IsPartOf bytes v.key
    value : IsPartOf bytes v.value
    file : IsPartOf bytes v.file

  value_in_place : (j : ℕ) → IsPresent (value_at (contents bytes).values j)
  value_in_place j = elim (leb_tells (header_of bytes).values j) [
    | inl over ↦
        let none : value_at (contents bytes).values j ≡ no_value = get_or-eq_default (contents bytes).values no_value (omega (arith, over.1, length_values bytes (contents bytes) refl)) in
        subst IsPresent (sym none) (record { key = nothing_in_place; value = nothing_in_place; file = nothing_in_place })
    | inr within ↦
        let own : value_at (contents bytes).values j ≡ value_of bytes j = value_is bytes (contents bytes) refl j within.1 in
        subst IsPresent (sym own) (record { key = text_in_place (value bytes j).key; value = text_in_place (value bytes j).value; file = text_in_place (value bytes j).file })
  ]

  abbrev all_listed : List Entry
  all_listed = listed (contents bytes).nodes (contents bytes).values

  entry_in_place : (e : Entry) → IsIn e all_listed → IsFoundIn bytes (origin e)
  entry_in_place e i =
      let c : Contents = contents bytes in
      let a = in_flat_map (λ n. map (entry (path c.nodes n)) (values_of c.nodes c.values n)) e (numbers c.nodes) i in
      let b = in_map (entry (path c.nodes a.0)) e (values_of c.nodes c.values a.0) a.2 in
      let v = in_map (value_at c.values) b.0 (range_with_len (node_at c.nodes a.0).first_value (node_at c.nodes a.0).values) b.1 in
      let is_present : IsPresent b.0 = subst IsPresent (sym v.2) (value_in_place v.0) in
      subst (λ (x : Entry). IsFoundIn bytes (origin x)) (sym b.2) (record { key = is_present.key; value = is_present.value; file = is_present.file })

  module _ (m : List ℕ) where
    won_in_place : All (λ (e : Entry). IsFoundIn bytes (origin e)) (winners all_listed m)
    won_in_place =
        All-weaker (Counts all_listed m) (λ (e : Entry). IsFoundIn bytes (origin e))
        (λ e counts. entry_in_place e (subst (IsIn e) (sym counts.listed) (append_right e counts.before (e ∷ counts.after) (inl refl))))
        (winners all_listed m) (winners_answer all_listed m).counts

    pub sources_in_place : All (IsFoundIn bytes) (sourced all_listed m)
    sources_in_place = All-map (IsFoundIn bytes) origin (winners all_listed m) won_in_place

    pub query_in_place : All (λ (p : List ℕ × List ℕ). IsPartOf bytes p.0 × IsPartOf bytes p.1) (query all_listed m)
    query_in_place =
        let P : List ℕ × List ℕ → Type 0 = λ p. IsPartOf bytes p.0 × IsPartOf bytes p.1 in
        All-map P property (winners all_listed m)
        (All-weaker (λ (e : Entry). IsFoundIn bytes (origin e)) (λ (e : Entry). P (property e)) (λ e is_present. (is_present.key, is_present.value)) (winners all_listed m) won_in_place)
