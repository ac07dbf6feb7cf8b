-- What is written of a trie is the image of its entries.
use Rattle.std.proofs.Common.{◌≡◌, ℕ, zero, suc, ◌+◌, ◌<◌, eqb, cond, List, [], ◌∷◌, ◌++◌, length, take, drop, flat_map, get_or, refl, sym, ◌∙◌, ap, arith}
use Rattle.std.proofs.lemmas.Bool.{ne_eqb}
use Rattle.std.proofs.lemmas.List.{length-map}
use Rattle.std.proofs.lemmas.List.FromFn.{fill_by_all}
use Rattle.std.proofs.lemmas.List.Sums.{sum_by-cons}
use Rattle.std.specs.List.{sum_by}
use Rattle.text_core.specs.declared.byte_set.ByteSet.{ByteSet}
use Rattle.text_core.specs.declared.item.Item.{Item}
use Rattle.text_core.specs.declared.item.Item.TheVariants.{Among}
use Rattle.trie_nodes.specs.declared.entry.Entry.{Entry}
use Rattle.trie_build.specs.Content.{Content, entry_at}
use Rattle.trie_build.specs.Held.{IsHeld}
use Rattle.trie_build.proofs.Sizing.{own_label}
use Rattle.trie_nodes.specs.Tree.{node_at, nowhere}
use Rattle.trie_nodes.specs.declared.node.Node.{Node}
use Rattle.trie_build.specs.Distinct.{IsIn}
use Rattle.trie_build.specs.Paths.{paths_of}
use Rattle.trie_build.specs.Sizes.{last_label, names_of, sets_of}
use Rattle.trie_build.proofs.Distinguishing.{get_in}
use Rattle.trie_build.specs.Header.{header_bytes}
use Rattle.trie_build.specs.Records.{node_bytes, set_bytes, value_bytes}
use Rattle.trie_build.specs.Written.{draft_header, written}
use Rattle.trie_build.specs.declared.records.NodeRecord.{NodeRecord}
use Rattle.trie_build.specs.Image.{all_names, all_texts, as_set, by_nodes, child_count, draft_of, image, image_node, image_text, label_byte, label_kind, label_set, path_kind, value_count}
use Rattle.trie_build.proofs.Imaging.{node_is, nodes_len, value_is, values_len}
use Rattle.trie_build.proofs.Placement.{no_node, no_value}
use Rattle.trie_build.proofs.Spelling.{after_root, root_path, set_there}
use Rattle.trie_build.specs.Writing.{node_record, node_records, value_record, value_records}
use Rattle.trie_build.proofs.CoreCounting.{child_count_is}
use Rattle.trie_build.proofs.Gathering.{gathered, part_len}
use Rattle.trie_build.proofs.Parts.{flat_mapped}

pub sum_pair : {A B : Type 0} (f : A → ℕ) (g : B → ℕ) (d : A) (e : B) (xs : List A) (ys : List B) → length xs ≡ length ys → ((k : ℕ) → k < length xs → f (get_or xs k d) ≡ g (get_or ys k e)) → (i : ℕ) → sum_by f (take i xs) ≡ sum_by g (take i ys)
sum_pair f g d e xs ys len same zero = refl
sum_pair f g d e [] [] len same (suc i) = refl
sum_pair f g d e [] (y ∷ ys) len same (suc i) = absurd (omega arith)
sum_pair f g d e (x ∷ xs) [] len same (suc i) = absurd (omega arith)
sum_pair f g d e (x ∷ xs) (y ∷ ys) len same (suc i) =
    sum_by-cons f x (take i xs) ∙ ap (λ n. n + sum_by f (take i xs)) (same 0 (omega arith))
    ∙ ap (λ n. g y + n) (sum_pair f g d e xs ys (omega arith) (λ k h. same (suc k) (omega arith)) i) ∙ sym (sum_by-cons g y (take i ys))

module _ (t : Content) (is : IsHeld t) where
  abbrev es : List Entry
  es = t.entries

  abbrev sets : List (List ℕ)
  sets = sets_of es

  abbrev path_at : ℕ → List Item
  path_at i = get_or (paths_of es) i []

  label_is : (i : ℕ) → i < length t.nodes → (node_at t.nodes i).label ≡ last_label (path_at i)
  label_is i h = own_label t.nodes is.shape i h ∙ ap last_label (is.paths i h)

  pub values_are : (i : ℕ) → i < length t.nodes → (node_at t.nodes i).values ≡ value_count es (path_at i)
  values_are i h = sym (part_len t is i h) ∙ sym (length-map (own i) (entry_at es)) ∙ ap length (gathered t is i h) where
    own : ℕ → List ℕ
    own k = take (node_at t.nodes k).values (drop (node_at t.nodes k).first_value t.numbers)

  kind_is : (i : ℕ) → i < length t.nodes → cond (eqb i 0) 0 (label_kind (node_at t.nodes i).label) ≡ path_kind (path_at i)
  kind_is zero h = sym (ap path_kind (root_path es))
  kind_is (suc i) h =
      ap (λ v. cond v 0 (label_kind (node_at t.nodes (suc i)).label)) (ne_eqb (suc i) 0 (λ e. absurd (omega (arith, e)))) ∙ ap label_kind (label_is (suc i) h) ∙ by (path_at (suc i)) (after_root es (suc i) (omega arith) (omega (arith, is.count))) where
        by : (p : List Item) → 0 < length p → label_kind (last_label p) ≡ path_kind p
        by [] some = absurd (omega arith)
        by (x ∷ p) some = refl

  abbrev made : ℕ → ℕ → ℕ → ℕ → ℕ → ℕ → ℕ → NodeRecord
  made kind byte set first count first_value values =
      record { kind = kind; byte = byte; first_zero = 0; second_zero = 0; set = set; first = first; count = count; first_value = first_value; values = values }

  node_reported : (i : ℕ) → i < length t.nodes → image_node es i (path_at i) ≡ node_record sets t.nodes i
  node_reported i h =
      let p : List Item = path_at i in
      let n : Node = node_at t.nodes i in
      let kind = kind_is i h in
      let byte : label_byte (last_label p) ≡ label_byte n.label = ap label_byte (sym (label_is i h)) in
      let set : label_set sets (last_label p) ≡ label_set sets n.label = ap (label_set sets) (sym (label_is i h)) in
      let counts : sum_by (λ (m : Node). m.count) (take i t.nodes) ≡ sum_by (child_count es) (take i (paths_of es)) =
      sum_pair (λ (m : Node). m.count) (child_count es) nowhere [] t.nodes (paths_of es) is.count (λ k l. child_count_is t is k l) i in
      let first : 1 + sum_by (child_count es) (take i (paths_of es)) ≡ n.first = ap (λ s. 1 + s) (sym counts) ∙ sym (is.shape.first i h) in
      let count : child_count es p ≡ n.count = sym (child_count_is t is i h) in
      let first_value : sum_by (value_count es) (take i (paths_of es)) ≡ sum_by (λ (m : Node). m.values) (take i t.nodes) =
      sym (sum_pair (λ (m : Node). m.values) (value_count es) nowhere [] t.nodes (paths_of es) is.count (λ k l. values_are k l) i) in
      let values : value_count es p ≡ n.values = sym (values_are i h) in
      let a : ℕ = path_kind p in
      let b : ℕ = label_byte (last_label p) in
      let s : ℕ = label_set sets (last_label p) in
      let f : ℕ = 1 + sum_by (child_count es) (take i (paths_of es)) in
      let c : ℕ = child_count es p in
      let v : ℕ = sum_by (value_count es) (take i (paths_of es)) in
      let w : ℕ = value_count es p in
      let a' : ℕ = cond (eqb i 0) 0 (label_kind n.label) in
      ap (λ x. made x b s f c v w) (sym kind) ∙ ap (λ x. made a' x s f c v w) byte ∙ ap (λ x. made a' (label_byte n.label) x f c v w) set
      ∙ ap (λ x. made a' (label_byte n.label) (label_set sets n.label) x c v w) first ∙ ap (λ x. made a' (label_byte n.label) (label_set sets n.label) n.first x v w) count
      ∙ ap (λ x. made a' (label_byte n.label) (label_set sets n.label) n.first n.count x w) first_value
      ∙ ap (λ x. made a' (label_byte n.label) (label_set sets n.label) n.first n.count (sum_by (λ (m : Node). m.values) (take i t.nodes)) x) values

  nodes_reported : (draft_of es).nodes ≡ node_records sets t.nodes
  nodes_reported =
      fill_by_all (node_record sets t.nodes) (draft_of es).nodes (length t.nodes) no_node (nodes_len es ∙ sym is.count) (λ i h.
      node_is es i no_node (omega (arith, nodes_len es, is.count)) ∙ node_reported i h)

  values_reported : (draft_of es).values ≡ value_records (by_nodes es) (names_of es)
  values_reported =
      fill_by_all (value_record (by_nodes es) (names_of es)) (draft_of es).values (length (by_nodes es)) no_value (values_len es) (λ j h.
      value_is es j no_value (omega (arith, values_len es)))

  -- the parts of what is written, one after another
  pub whole : (header : List ℕ) → header ≡ header_bytes (draft_header (draft_of es))
      → header ++ (flat_map node_bytes (node_records sets t.nodes) ++ (flat_map value_bytes (value_records (by_nodes es) (names_of es)) ++ (all_names sets ++ (all_texts es ++ all_names (names_of es))))) ≡ image es
  unfolding image written
  whole header is_header =
      let nodes : flat_map node_bytes (node_records sets t.nodes) ≡ flat_map node_bytes (draft_of es).nodes = ap (flat_map node_bytes) (sym nodes_reported) in
      let values : flat_map value_bytes (value_records (by_nodes es) (names_of es)) ≡ flat_map value_bytes (draft_of es).values = ap (flat_map value_bytes) (sym values_reported) in
      let all_sets : all_names sets ≡ flat_map set_bytes (draft_of es).sets = sym (flat_mapped set_bytes as_set sets) in
      ap (λ l. l ++ (flat_map node_bytes (node_records sets t.nodes) ++ (flat_map value_bytes (value_records (by_nodes es) (names_of es)) ++ (all_names sets ++ image_text es)))) is_header
      ∙ ap (λ l. header_bytes (draft_header (draft_of es)) ++ (l ++ (flat_map value_bytes (value_records (by_nodes es) (names_of es)) ++ (all_names sets ++ image_text es)))) nodes
      ∙ ap (λ l. header_bytes (draft_header (draft_of es)) ++ (flat_map node_bytes (draft_of es).nodes ++ (l ++ (all_names sets ++ image_text es)))) values
      ∙ ap (λ l. header_bytes (draft_header (draft_of es)) ++ (flat_map node_bytes (draft_of es).nodes ++ (flat_map value_bytes (draft_of es).values ++ (l ++ image_text es)))) all_sets

  -- a node's set is among the sets
  pub set_among : (i : ℕ) (set : ByteSet) → i < length t.nodes → (node_at t.nodes i).label ≡ Among set → IsIn set.bits sets
  set_among i set h e =
      set_there es (path_at i) set (get_in [] (paths_of es) i (omega (arith, h, is.count))) (sym (label_is i h) ∙ e)
