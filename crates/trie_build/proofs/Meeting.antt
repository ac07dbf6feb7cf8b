-- What a trie and its bounds say of the parts that are written.
use Rattle.std.proofs.Common.{◌≡◌, ℕ, ◌+◌, ◌^◌, ◌<◌, ◌≤◌, List, [], ◌∷◌, ◌++◌, append_assoc, length, take, map, flat_map, refl, sym, ◌∙◌, ap, subst, arith, length-append, All}
use Rattle.std.proofs.Math.Seq.{take-length}
use Rattle.std.proofs.lemmas.List.{length-map}
use Rattle.std.proofs.lemmas.List.Concat.{length-flat_map}
use Rattle.std.proofs.lemmas.List.Sums.{sum_by-cons}
use Rattle.std.specs.List.{sum_by}
use Rattle.trie_nodes.specs.declared.entry.Entry.{Entry}
use Rattle.trie_build.specs.Content.{Content}
use Rattle.trie_build.specs.Held.{IsHeld, own_numbers}
use Rattle.text_core.specs.declared.byte_set.ByteSet.{ByteSet}
use Rattle.text_core.specs.declared.item.Item.TheVariants.{Among}
use Rattle.trie_nodes.specs.Tree.{node_at, nowhere}
use Rattle.trie_nodes.specs.declared.node.Node.{Node}
use Rattle.trie_build.specs.Distinct.{IsDistinctOf, IsIn}
use Rattle.trie_build.specs.Paths.{ending_at, paths_of}
use Rattle.trie_build.specs.Sizes.{KeepsBounds, last_label, names_of, set_in, sets_of}
use Rattle.text_bytes.specs.Insertion.{text_order}
use Rattle.trie_build.proofs.Counting.{few_sets, sum_within}
use Rattle.trie_build.proofs.Distinguishing.{distinct_is, map_in}
use Rattle.trie_build.proofs.Orders.{texts_order}
use Rattle.trie_nodes.specs.Bounds.{second_version}
use Rattle.trie_build.specs.Header.{header_bytes}
use Rattle.trie_build.specs.Numbers.{IsSmall}
use Rattle.trie_build.specs.Records.{node_bytes, value_bytes}
use Rattle.trie_build.specs.Written.{draft_header}
use Rattle.trie_build.specs.declared.header.Header.{Header}
use Rattle.trie_build.specs.Image.{all_names, all_texts, by_nodes, draft_of, image, image_text, own_text, value_count}
use Rattle.trie_build.proofs.Fitting.{few_values, sets_len, short}
use Rattle.trie_build.proofs.Imaging.{nodes_len, values_len}
use Rattle.trie_build.specs.Writing.{AreTexts, named, node_records, value_records}
use Rattle.trie_build.proofs.Composing.{set_among, sum_pair, values_are, whole}
use Rattle.trie_build.proofs.Gathering.{all_gathered, all_small}

ones : {A : Type 0} (xs : List A) → sum_by (λ x. 1) xs ≡ length xs
ones [] = refl
ones (x ∷ xs) = let rest : sum_by (λ y. 1) xs ≡ length xs = ones xs in omega (arith, rest, sum_by-cons (λ y. 1) x xs)

module _ (t : Content) (is : IsHeld t) (bounds : KeepsBounds t.entries) where
  abbrev es : List Entry
  es = t.entries

  abbrev pub order : List ℕ
  order = flat_map (own_numbers t.numbers) t.nodes

  all_short : length (all_texts es) + length (all_names (names_of es)) < 2 ^ 32
  all_short = let both : length (image_text es) ≡ length (all_texts es) + length (all_names (names_of es)) = length-append (all_texts es) (all_names (names_of es)) in omega (arith, both, short es is.rising bounds)

  texts_are : length (flat_map own_text (named es order)) ≡ length (all_texts es)
  texts_are = ap (λ (l : List Entry). length (flat_map own_text l)) (all_gathered t is)

  pub texts_small : IsSmall (length (flat_map own_text (named es order)))
  texts_small = omega (arith, texts_are, all_short)

  pub names_after : IsSmall (length (flat_map own_text (named es order)) + length (all_names (names_of es)))
  names_after = omega (arith, texts_are, all_short)

  pub names_short : IsSmall (length (all_names (names_of es)))
  names_short = omega (arith, all_short)

  pub order_len : length order ≡ length es
  order_len =
      let own : length (named es order) ≡ length order = simp length-map in
      let all : length (named es order) ≡ length (by_nodes es) = ap length (all_gathered t is) in
      omega (arith, own, all, few_values es is.rising bounds)

  pub few_order : IsSmall (length order)
  few_order = let few : length es ≤ 2 ^ 24 = bounds.entries in omega (arith, order_len, few)

  pub few_nodes : IsSmall (length t.nodes)
  few_nodes = let few : length (paths_of es) ≤ 2 ^ 26 = bounds.nodes in omega (arith, is.count, few)

  pub values_small : IsSmall (sum_by (λ (n : Node). n.values) t.nodes)
  values_small =
      let same : sum_by (λ (n : Node). n.values) (take (length t.nodes) t.nodes) ≡ sum_by (value_count es) (take (length t.nodes) (paths_of es)) =
      sum_pair (λ (n : Node). n.values) (value_count es) nowhere [] t.nodes (paths_of es) is.count (λ k l. values_are t is k l) (length t.nodes) in
      let left : sum_by (λ (n : Node). n.values) (take (length t.nodes) t.nodes) ≡ sum_by (λ (n : Node). n.values) t.nodes = ap (sum_by (λ (n : Node). n.values)) (take-length t.nodes) in
      let right : sum_by (value_count es) (take (length t.nodes) (paths_of es)) ≡ sum_by (value_count es) (paths_of es) =
      ap (λ n. sum_by (value_count es) (take n (paths_of es))) is.count ∙ ap (sum_by (value_count es)) (take-length (paths_of es)) in
      let all : length (by_nodes es) ≡ sum_by (value_count es) (paths_of es) = length-flat_map (ending_at es) (paths_of es) in
      let few : length es ≤ 2 ^ 24 = bounds.entries in
      omega (arith, same, left, right, all, few_values es is.rising bounds, few)

  pub sets_texts : AreTexts (sets_of es)
  sets_texts = let few : length (paths_of es) ≤ 2 ^ 26 = bounds.nodes in record {
    rise = (distinct_is text_order texts_order (flat_map (λ p. set_in (last_label p)) (paths_of es))).rises;
    few = omega (arith, few_sets es, few);
  }

  names_are : IsDistinctOf text_order (map (λ (e : Entry). e.file) es) (names_of es)
  names_are = distinct_is text_order texts_order (map (λ (e : Entry). e.file) es)

  pub names_texts : AreTexts (names_of es)
  names_texts =
      let within : sum_by (λ s. 1) (names_of es) ≤ sum_by (λ s. 1) (map (λ (e : Entry). e.file) es) = sum_within text_order texts_order (λ s. 1) (names_of es) (map (λ (e : Entry). e.file) es) names_are.rises names_are.only in
      let files : length (map (λ (e : Entry). e.file) es) ≡ length es = simp length-map in
      let few : length es ≤ 2 ^ 24 = bounds.entries in record {
        rise = names_are.rises;
        few = omega (arith, within, ones (names_of es), ones (map (λ (e : Entry). e.file) es), files, few);
      }

  pub name_among : (e : Entry) → IsIn e es → IsIn e.file (names_of es)
  name_among e i = names_are.has e.file (map_in (λ (x : Entry). x.file) e es i)

  -- the parts that are written, by what they are
  module _ (entries : List Entry) (nodes : List Node) (sets names : List (List ℕ)) (listed : List ℕ) (e : entries ≡ es) (n : nodes ≡ t.nodes) (s : sets ≡ sets_of es) (m : names ≡ names_of es)
      (o : listed ≡ order) where
    named_is : named entries listed ≡ by_nodes es
    named_is = ap (λ l. named l listed) e ∙ ap (named es) o ∙ all_gathered t is

    pub need_within : All (λ k. k < length entries) listed
    need_within = subst (λ l. All (λ k. k < length l) listed) (sym e) (subst (All (λ k. k < length es)) (sym o) (all_small t is))

    pub need_short : IsSmall (length (flat_map own_text (named entries listed)))
    need_short = let same : length (flat_map own_text (named entries listed)) ≡ length (all_texts es) = ap (λ (l : List Entry). length (flat_map own_text l)) named_is in omega (arith, same, all_short)

    pub need_after : length (flat_map own_text (named entries listed)) + length (all_names names) < 2 ^ 32
    need_after =
        let same : length (flat_map own_text (named entries listed)) ≡ length (all_texts es) = ap (λ (l : List Entry). length (flat_map own_text l)) named_is in
        let following : length (all_names names) ≡ length (all_names (names_of es)) = ap (λ l. length (all_names l)) m in
        omega (arith, same, following, all_short)

    pub need_values : IsSmall (length listed)
    need_values = let same : length listed ≡ length order = ap length o in omega (arith, same, few_order)

    pub need_sum : IsSmall (sum_by (λ (x : Node). x.values) nodes)
    need_sum = subst (λ l. IsSmall (sum_by (λ (x : Node). x.values) l)) (sym n) values_small

    pub need_sets : AreTexts sets
    need_sets = subst AreTexts (sym s) sets_texts

    pub need_names : AreTexts names
    need_names = subst AreTexts (sym m) names_texts

    pub need_lengths : IsSmall (length (all_names names))
    need_lengths = subst (λ l. IsSmall (length (all_names l))) (sym m) names_short

    pub need_set : (i : ℕ) (set : ByteSet) → i < length nodes → (node_at nodes i).label ≡ Among set → IsIn set.bits sets
    need_set i set h is_set = subst (IsIn set.bits) (sym s) (set_among t is i set (subst (λ l. i < length l) n h) (ap (λ l. (node_at l i).label) (sym n) ∙ is_set))

    pub need_name : (x : Entry) → IsIn x entries → IsIn x.file names
    need_name x i = subst (IsIn x.file) (sym m) (name_among x (subst (IsIn x) e i))

    abbrev made : ℕ → ℕ → ℕ → ℕ → Header
    made nodes_len values_len sets_len text = record { version = second_version; nodes = nodes_len; values = values_len; sets = sets_len; text = text; reserved = 0 }

    pub header_reported : (text set_count : ℕ) → text ≡ length (flat_map own_text (named entries listed)) + length (all_names names) → set_count ≡ length sets
        → made (length nodes) (length listed) set_count text ≡ draft_header (draft_of es)
    header_reported text set_count at count =
        let nodes_are : length nodes ≡ length (draft_of es).nodes = ap length n ∙ is.count ∙ sym (nodes_len es) in
        let values_are : length listed ≡ length (draft_of es).values = ap length o ∙ order_len ∙ sym (few_values es is.rising bounds) ∙ sym (values_len es) in
        let sets_are : set_count ≡ length (draft_of es).sets = count ∙ ap length s ∙ sym (sets_len es is.rising bounds) in
        let text_is : text ≡ length (draft_of es).text =
        at ∙ ap (λ (l : List Entry). length (flat_map own_text l) + length (all_names names)) named_is ∙ ap (λ l. length (all_texts es) + length (all_names l)) m
        ∙ sym (length-append (all_texts es) (all_names (names_of es))) in
        ap (λ x. made x (length listed) set_count text) nodes_are ∙ ap (λ x. made (length (draft_of es).nodes) x set_count text) values_are
        ∙ ap (λ x. made (length (draft_of es).nodes) (length (draft_of es).values) x text) sets_are
        ∙ ap (λ x. made (length (draft_of es).nodes) (length (draft_of es).values) (length (draft_of es).sets) x) text_is

    pub composed : (header : List ℕ) → header ≡ header_bytes (draft_header (draft_of es))
        → header ++ (flat_map node_bytes (node_records sets nodes) ++ (flat_map value_bytes (value_records (named entries listed) names) ++ (all_names sets ++ (flat_map own_text (named entries listed) ++ all_names names)))) ≡ image es
    composed header is_header =
        let prefix : List ℕ → List ℕ → List ℕ → List ℕ → List ℕ → List ℕ = λ a b c d f. header ++ (a ++ (b ++ (c ++ (d ++ f)))) in
        let a : flat_map node_bytes (node_records sets nodes) ≡ flat_map node_bytes (node_records (sets_of es) t.nodes) =
        ap (λ l. flat_map node_bytes (node_records l nodes)) s ∙ ap (λ l. flat_map node_bytes (node_records (sets_of es) l)) n in
        let b : flat_map value_bytes (value_records (named entries listed) names) ≡ flat_map value_bytes (value_records (by_nodes es) (names_of es)) =
        ap (λ (l : List Entry). flat_map value_bytes (value_records l names)) named_is ∙ ap (λ l. flat_map value_bytes (value_records (by_nodes es) l)) m in
        let c : all_names sets ≡ all_names (sets_of es) = ap all_names s in
        let d : flat_map own_text (named entries listed) ≡ all_texts es = ap (flat_map own_text) named_is in
        let f : all_names names ≡ all_names (names_of es) = ap all_names m in
        ap (λ x. prefix x (flat_map value_bytes (value_records (named entries listed) names)) (all_names sets) (flat_map own_text (named entries listed)) (all_names names)) a
        ∙ ap (λ x. prefix (flat_map node_bytes (node_records (sets_of es) t.nodes)) x (all_names sets) (flat_map own_text (named entries listed)) (all_names names)) b
        ∙ ap (λ x. prefix (flat_map node_bytes (node_records (sets_of es) t.nodes)) (flat_map value_bytes (value_records (by_nodes es) (names_of es))) x (flat_map own_text (named entries listed)) (all_names names)) c
        ∙ ap (λ x. prefix (flat_map node_bytes (node_records (sets_of es) t.nodes)) (flat_map value_bytes (value_records (by_nodes es) (names_of es))) (all_names (sets_of es)) x (all_names names)) d
        ∙ ap (λ x. prefix (flat_map node_bytes (node_records (sets_of es) t.nodes)) (flat_map value_bytes (value_records (by_nodes es) (names_of es))) (all_names (sets_of es)) (all_texts es) x) f
        ∙ whole t is header is_header

-- the parts one after another
pub joined : (out1 out2 out3 out4 out5 out6 h n v s x y : List ℕ) → out6 ≡ out5 ++ y → out5 ≡ out4 ++ x → out4 ≡ out3 ++ s → out3 ≡ out2 ++ v → out2 ≡ out1 ++ n → out1 ≡ h
    → out6 ≡ h ++ (n ++ (v ++ (s ++ (x ++ y))))
joined out1 out2 out3 out4 out5 out6 h n v s x y a b c d e f = rw (a, b, c, d, e, f) (simp append_assoc)
