-- Where the texts of an image are.
use Rattle.std.proofs.Common.{◌≡◌, ◌≢◌, ℕ, ◌+◌, ◌<◌, ◌≤◌, List, [], ◌∷◌, ◌++◌, length, take, drop, map, get_or, refl, sym, ◌∙◌, ap, subst, arith, length-append, append_assoc, All}
use Rattle.std.proofs.lemmas.List.{append-nil, drop-drop, take_at}
use Rattle.std.proofs.lemmas.List.Elements.{All-get_or}
use Rattle.std.proofs.lemmas.List.Folds.{length-flat_map-take}
use Rattle.std.proofs.Math.Seq.{drop-append-add}
use Rattle.trie_nodes.specs.Orders.{Rising}
use Rattle.trie_nodes.specs.declared.entry.Entry.{Entry}
use Rattle.trie_build.specs.Distinct.{IsIn, number_in}
use Rattle.trie_build.specs.Sizes.{names_of}
use Rattle.text_bytes.specs.Insertion.{text_order}
use Rattle.trie_build.proofs.Distinguishing.{distinct_is, get_in, in_get, map_in}
use Rattle.trie_build.proofs.Orders.{texts_order}
use Rattle.trie_build.specs.Accepted.{HasTexts}
use Rattle.trie_build.specs.declared.records.ValueRecord.{ValueRecord}
use Rattle.trie_build.specs.Image.{all_names, all_texts, by_nodes, draft_of, image_text, own_text, text_place, name_place}
use Rattle.trie_build.proofs.Imaging.{no_entry, value_is, values_len}
use Rattle.trie_build.proofs.Members.{in_entries, number_found, number_within, piece_read}

-- what holds of all holds of each
pub all_of : {A : Type 0} (P : A → Type 0) (xs : List A) (x : A) → All P xs → IsIn x xs → P x
all_of P xs x all i = let w = in_get x x xs i in subst P (sym w.2) (All-get_or P xs w.0 x w.1 all)

not_empty : (key : List ℕ) → key ≢ [] → 0 < length key
not_empty [] h = absurd (h refl)
not_empty (b ∷ key) h = omega arith

module _ (es : List Entry) where
  -- the entry that a value is
  abbrev pub reported : ℕ → Entry
  reported j = get_or (by_nodes es) j no_entry

  abbrev name_number : Entry → ℕ
  name_number e = number_in text_order (names_of es) e.file

  name_there : (e : Entry) → IsIn e es → IsIn e.file (names_of es)
  name_there e i = (distinct_is text_order texts_order (map (λ (x : Entry). x.file) es)).has e.file (map_in (λ (x : Entry). x.file) e es i)

  pub reported_in : (j : ℕ) → j < length (by_nodes es) → IsIn (reported j) es
  reported_in j h = in_entries es (reported j) (get_in no_entry (by_nodes es) j h)

  text_len : length (image_text es) ≡ length (all_texts es) + length (all_names (names_of es))
  text_len = length-append (all_texts es) (all_names (names_of es))

  own_within : (j : ℕ) → j < length (by_nodes es) → text_place es j + (length (reported j).key + length (reported j).value) ≤ length (all_texts es)
  own_within j h =
      let own : length (own_text (reported j)) ≡ length (reported j).key + length (reported j).value = length-append (reported j).key (reported j).value in
      let all = length-flat_map-take own_text (by_nodes es) j no_entry h in
      omega (arith, own, all)

  name_within : (e : Entry) → IsIn e es → name_place es e.file + length e.file ≤ length (image_text es)
  name_within e i =
      let k : ℕ = name_number e in
      let inside : k < length (names_of es) = number_within text_order texts_order e.file (names_of es) (name_there e i) in
      let own : length (get_or (names_of es) k []) ≡ length e.file = ap length (number_found text_order texts_order e.file (names_of es) [] (name_there e i)) in
      let all = length-flat_map-take (λ (name : List ℕ). name) (names_of es) k [] inside in
      omega (arith, own, all, text_len)

  pub texts : Rising es → (j : ℕ) (v : ValueRecord) → j < length (draft_of es).values → HasTexts (length (image_text es)) (get_or (draft_of es).values j v)
  texts rising j v h =
      let inside : j < length (by_nodes es) = omega (arith, values_len es) in
      let some : 0 < length (reported j).key = not_empty (reported j).key (all_of (λ (e : Entry). e.key ≢ []) es (reported j) rising.keys (reported_in j inside)) in
      let own = own_within j inside in
      let name = name_within (reported j) (reported_in j inside) in
      rw (value_is es j v h) (record {
        some = some;
        key = omega (arith, own, text_len);
        value = omega (arith, own, text_len);
        file = name;
      })

  -- what is read at a value's places are its texts
  pub key_read : (j : ℕ) → j < length (by_nodes es) → take (length (reported j).key) (drop (text_place es j) (image_text es)) ≡ (reported j).key
  key_read j h =
      let w = piece_read own_text (by_nodes es) j no_entry [] (all_names (names_of es)) (own_text (reported j)) (text_place es j) h refl (omega arith) in
      ap (take (length (reported j).key)) (w.1 ∙ append_assoc (reported j).key (reported j).value w.0) ∙ take_at (reported j).key ((reported j).value ++ w.0) (length (reported j).key) refl

  pub value_read : (j : ℕ) → j < length (by_nodes es) → take (length (reported j).value) (drop (text_place es j + length (reported j).key) (image_text es)) ≡ (reported j).value
  value_read j h =
      let key : List ℕ = (reported j).key in
      let value : List ℕ = (reported j).value in
      let w = piece_read own_text (by_nodes es) j no_entry [] (all_names (names_of es)) (own_text (reported j)) (text_place es j) h refl (omega arith) in
      let following : drop (text_place es j + length key) (image_text es) ≡ drop (length key) (drop (text_place es j) (image_text es)) = sym (drop-drop (length key) (text_place es j) (image_text es)) in
      let at : drop (length key) (drop (text_place es j) (image_text es)) ≡ value ++ w.0 =
      ap (drop (length key)) (w.1 ∙ append_assoc key value w.0) ∙ ap (λ n. drop n (key ++ (value ++ w.0))) (sym (add_none (length key))) ∙ drop-append-add key (value ++ w.0) 0 in
      ap (take (length value)) (following ∙ at) ∙ take_at value w.0 (length value) refl
    where
      add_none : (n : ℕ) → n + 0 ≡ n
      add_none n = omega arith

  pub name_read : (e : Entry) → IsIn e es → take (length e.file) (drop (name_place es e.file) (image_text es)) ≡ e.file
  name_read e i =
      let k : ℕ = name_number e in
      let inside : k < length (names_of es) = number_within text_order texts_order e.file (names_of es) (name_there e i) in
      let own : get_or (names_of es) k [] ≡ e.file = number_found text_order texts_order e.file (names_of es) [] (name_there e i) in
      let w = piece_read (λ (name : List ℕ). name) (names_of es) k [] (all_texts es) [] e.file (name_place es e.file) inside own refl in
      let whole : image_text es ≡ all_texts es ++ (all_names (names_of es) ++ []) = ap (λ l. all_texts es ++ l) (sym (append-nil (all_names (names_of es)))) in
      ap (λ l. take (length e.file) (drop (name_place es e.file) l)) whole ∙ ap (take (length e.file)) w.1 ∙ take_at e.file w.0 (length e.file) refl
