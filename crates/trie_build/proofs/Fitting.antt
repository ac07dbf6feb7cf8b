-- The numbers of an image have 32 bits.
use Rattle.std.proofs.Common.{◌≡◌, ℕ, ◌+◌, ◌^◌, ◌<◌, ◌≤◌, List, [], ◌∷◌, length, map, get_or, refl, sym, ◌∙◌, ap, arith, inl, inr, length-append, All}
use Rattle.std.proofs.Math.Seq.{take-length}
use Rattle.std.proofs.lemmas.Bool.Decides.{eqb_tells}
use Rattle.std.proofs.lemmas.List.{get_or-map, length-map}
use Rattle.std.proofs.lemmas.List.Concat.{length-flat_map}
use Rattle.std.proofs.lemmas.List.Elements.{All-get_or}
use Rattle.std.proofs.lemmas.List.Sorted.{length_permutation, sum_by-IsPermutation}
use Rattle.std.proofs.lemmas.List.Sums.{sum_by-cons}
use Rattle.std.specs.List.{sum_by}
use Rattle.text_core.specs.declared.byte_set.ByteSet.{ByteSet}
use Rattle.trie_nodes.specs.Orders.{Rising}
use Rattle.trie_nodes.specs.declared.entry.Entry.{Entry}
use Rattle.trie_build.specs.Sizes.{KeepsBounds, names_of, sets_of}
use Rattle.trie_build.proofs.Counting.{few_sets}
use Rattle.trie_build.specs.Accepted.{IsInPlace, IsLabelled}
use Rattle.trie_build.specs.Numbers.{IsSmall}
use Rattle.trie_build.specs.Written.{IsSmallNode, IsSmallValue, IsWritable}
use Rattle.trie_build.specs.declared.records.NodeRecord.{NodeRecord}
use Rattle.trie_build.specs.declared.records.ValueRecord.{ValueRecord}
use Rattle.trie_build.proofs.Sums.{sum_prefix}
use Rattle.trie_build.specs.Entries.{AreTyped}
use Rattle.trie_build.specs.Image.{all_names, all_texts, as_set, by_nodes, draft_of, image_text, own_text}
use Rattle.trie_build.specs.Sound.{IsSound, first_children, first_values}
use Rattle.trie_build.proofs.Imaging.{all_children, all_values, in_place, nodes_len, value_is, values_len}
use Rattle.trie_build.proofs.Permuting.{nodes_permute}
use Rattle.trie_build.proofs.Rising.{orders}
use Rattle.trie_build.proofs.Spelling.{labels}
use Rattle.trie_build.proofs.Texting.{all_of, reported, reported_in, texts}

sum_same : {A : Type 0} (f g : A → ℕ) → ((x : A) → f x ≡ g x) → (xs : List A) → sum_by f xs ≡ sum_by g xs
sum_same f g same [] = refl
sum_same f g same (x ∷ xs) = sum_by-cons f x xs ∙ ap (λ n. n + sum_by f xs) (same x) ∙ ap (λ n. g x + n) (sum_same f g same xs) ∙ sym (sum_by-cons g x xs)

module _ (es : List Entry) (rising : Rising es) (bounds : KeepsBounds es) where
  pub few_values : length (by_nodes es) ≡ length es
  few_values = length_permutation es (by_nodes es) (nodes_permute es)

  pub text_len : length (image_text es) ≡ sum_by (λ (e : Entry). length e.key + length e.value) es + sum_by length (names_of es)
  text_len =
      let both : length (image_text es) ≡ length (all_texts es) + length (all_names (names_of es)) = length-append (all_texts es) (all_names (names_of es)) in
      let own : length (all_texts es) ≡ sum_by (λ (e : Entry). length e.key + length e.value) es =
      length-flat_map own_text (by_nodes es) ∙ sum_by-IsPermutation (λ (e : Entry). length (own_text e)) es (by_nodes es) (nodes_permute es)
      ∙ sum_same (λ (e : Entry). length (own_text e)) (λ (e : Entry). length e.key + length e.value) (λ e. length-append e.key e.value) es in
      let names : length (all_names (names_of es)) ≡ sum_by length (names_of es) = length-flat_map (λ (name : List ℕ). name) (names_of es) in
      omega (arith, both, own, names)

  pub sets_len : length (draft_of es).sets ≡ length (sets_of es)
  sets_len = length-map (sets_of es) as_set

  pub sound : IsSound (draft_of es)
  sound = record {
    some = omega (arith, all_children es);
    nodes = omega (arith, nodes_len es, bounds.nodes);
    values = omega (arith, values_len es, few_values, bounds.entries);
    sets = omega (arith, sets_len, bounds.nodes, few_sets es);
    in_place = in_place es;
    children = all_children es;
    all_values = all_values es;
    labels = labels es;
    texts = texts es rising;
    orders = orders es rising;
  }

  small_node : All IsSmallNode (draft_of es).nodes
  small_node i n h =
      let own : NodeRecord = get_or (draft_of es).nodes i n in
      let place : IsInPlace i (first_children (draft_of es) i) (first_values (draft_of es) i) own = in_place es i n h in
      let label : IsLabelled (length (draft_of es).sets) i own = labels es i n h in
      let children = sum_prefix (λ (m : NodeRecord). m.count) (draft_of es).nodes i n h in
      let values = sum_prefix (λ (m : NodeRecord). m.values) (draft_of es).nodes i n h in
      let every_child : sum_by (λ (m : NodeRecord). m.count) (draft_of es).nodes ≡ first_children (draft_of es) (length (draft_of es).nodes) = ap (sum_by (λ (m : NodeRecord). m.count)) (sym (take-length (draft_of es).nodes)) in
      let every_value : sum_by (λ (m : NodeRecord). m.values) (draft_of es).nodes ≡ first_values (draft_of es) (length (draft_of es).nodes) = ap (sum_by (λ (m : NodeRecord). m.values)) (sym (take-length (draft_of es).nodes)) in
      let few : length (draft_of es).nodes ≤ 2 ^ 26 = sound.nodes in
      let few_v : length (draft_of es).values ≤ 2 ^ 24 = sound.values in
      let few_s : length (draft_of es).sets ≤ 2 ^ 26 = sound.sets in
      record {
        set = elim (eqb_tells own.kind 4) [ inl e ↦ omega (arith, label.a_set e.1, few_s) | inr e ↦ omega (arith, label.no_set e.1) ];
        first = omega (arith, place.first, children, every_child, all_children es, few);
        count = omega (arith, children, every_child, all_children es, few);
        first_value = omega (arith, place.first_value, values, every_value, all_values es, few_v);
        values = omega (arith, values, every_value, all_values es, few_v);
      }

  pub short : IsSmall (length (image_text es))
  short = omega (arith, text_len, bounds.index)

module _ (es : List Entry) (rising : Rising es) (bounds : KeepsBounds es) (typed : AreTyped es) where
  small_value : All IsSmallValue (draft_of es).values
  small_value j v h =
      let inside : j < length (by_nodes es) = omega (arith, values_len es) in
      let read = texts es rising j v h in
      let order : (get_or (draft_of es).values j v).order ≡ (reported es j).order = ap (λ (w : ValueRecord). w.order) (value_is es j v h) in
      let line : (get_or (draft_of es).values j v).line ≡ (reported es j).line = ap (λ (w : ValueRecord). w.line) (value_is es j v h) in
      let low = all_of (λ (e : Entry). IsSmall e.order) es (reported es j) typed.orders (reported_in es j inside) in
      let few = all_of (λ (e : Entry). IsSmall e.line) es (reported es j) typed.lines (reported_in es j inside) in
      record {
        key = record { place = omega (arith, read.key, short es rising bounds); len = omega (arith, read.key, short es rising bounds) };
        value = record { place = omega (arith, read.value, short es rising bounds); len = omega (arith, read.value, short es rising bounds) };
        order = omega (arith, order, low);
        file = record { place = omega (arith, read.file, short es rising bounds); len = omega (arith, read.file, short es rising bounds) };
        line = omega (arith, line, few);
      }

  small_sets : All (λ (s : ByteSet). length s.bits ≡ 32) (draft_of es).sets
  small_sets k s h =
      let inside : k < length (sets_of es) = omega (arith, sets_len es rising bounds) in
      let is : get_or (map as_set (sets_of es)) k s ≡ as_set (get_or (sets_of es) k []) = get_or-map as_set (sets_of es) k [] s inside in
      ap (λ (t : ByteSet). length t.bits) is ∙ All-get_or (λ (bits : List ℕ). length bits ≡ 32) (sets_of es) k [] inside typed.sets

  pub writable : IsWritable (draft_of es)
  writable = record {
    nodes = small_node es rising bounds;
    values = small_value;
    sets = small_sets;
    few_nodes = omega (arith, (sound es rising bounds).nodes);
    few_values = omega (arith, (sound es rising bounds).values);
    few_sets = omega (arith, (sound es rising bounds).sets);
    short = short es rising bounds;
  }
