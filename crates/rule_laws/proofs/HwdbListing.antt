-- What the image of entries lists.
use Rattle.std.proofs.Common.{◌≡◌, ℕ, zero, suc, ◌+◌, ◌-◌, ◌<◌, ◌≤◌, List, [], ◌∷◌, ◌++◌, length, take, map, flat_map, get_or, refl, sym, ◌∙◌, ap, subst, arith, inl, inr, add-one, zero-add, length-append}
use Rattle.std.proofs.lemmas.List.{append-nil, get_or-map, length-map, take_all, take_more}
use Rattle.std.proofs.lemmas.List.Concat.{flat_map-append, get_or-flat_map, length-flat_map}
use Rattle.std.proofs.lemmas.List.Folds.{length-flat_map-take}
use Rattle.std.proofs.lemmas.List.FromFn.{fill_by_all}
use Rattle.std.proofs.lemmas.List.Sums.{length-filter, sum_by_more}
use Rattle.std.specs.List.{range_with_len, sum_by}
use Rattle.std.specs.List.Sorted.{IsPermutation}
use Rattle.text_core.specs.declared.byte_set.ByteSet.{ByteSet}
use Rattle.text_core.specs.declared.item.Item.{Item}
use Rattle.text_core.specs.declared.item.Item.TheVariants.{Byte, One, Many, Among}
use Rattle.trie_nodes.specs.Orders.{Rising}
use Rattle.trie_nodes.specs.declared.entry.Entry.{Entry}
use Rattle.trie_nodes.proofs.Shaped.{IsChild, path_is}
use Rattle.trie_nodes.specs.Tree.{Shape, node_at, nowhere, numbers, path}
use Rattle.trie_nodes.specs.Values.{Value, entry, listed, no_value, value_at, values_of}
use Rattle.trie_nodes.specs.declared.node.Node.{Node}
use Rattle.trie_build.specs.Distinct.{IsIn, number_in}
use Rattle.trie_build.specs.Paths.{children_in, ending_at, is_child, paths_of, patterns_of}
use Rattle.trie_build.specs.Sizes.{KeepsBounds, last_label, sets_of}
use Rattle.text_bytes.specs.Insertion.{text_order}
use Rattle.trie_build.specs.Tree.{IsLevelByLevel}
use Rattle.trie_build.proofs.Children.{IsChildOf, child_of, level_by_level}
use Rattle.trie_build.proofs.Distinguishing.{get_in, in_filter}
use Rattle.trie_build.proofs.Parts.{map_numbered}
use Rattle.trie_build.proofs.Orders.{texts_order}
use Rattle.trie_build.proofs.Paths.{paths_tree}
use Rattle.trie_build.specs.Contents.{Contents, contents}
use Rattle.trie_build.proofs.NodeLemmas.{tree}
use Rattle.trie_build.specs.Entries.{AreTyped}
use Rattle.trie_build.specs.Image.{as_set, by_nodes, draft_of, image, image_node, image_text, image_value}
use Rattle.trie_build.specs.Sound.{said, said_label, said_node, said_text, said_value}
use Rattle.rule_laws.proofs.Accepting.{image_accepted}
use Rattle.trie_build.proofs.Fitting.{sound, writable}
use Rattle.trie_build.proofs.Imaging.{no_entry, node_is, nodes_len, value_is, values_len}
use Rattle.trie_build.proofs.Members.{number_found, number_within, pattern_is}
use Rattle.trie_build.proofs.Permuting.{nodes_permute}
use Rattle.rule_laws.proofs.Saying.{written_contents}
use Rattle.trie_build.proofs.Placement.{no_node, no_value as no_record}
use Rattle.trie_build.proofs.Spelling.{root_path, set_there}
use Rattle.trie_build.proofs.Texting.{key_read, name_read, reported, reported_in, value_read}

flat_numbered : {A B : Type 0} (f : ℕ → List B) (g : A → List B) (xs : List A) (d : A) (a : ℕ) → ((k : ℕ) → k < length xs → f (a + k) ≡ g (get_or xs k d)) → flat_map f (range_with_len a (length xs)) ≡ flat_map g xs
flat_numbered f g [] d a same = refl
flat_numbered f g (x ∷ xs) d a same =
    let first : f a ≡ g x = ap f (add_none a) ∙ same 0 (omega arith) in
    let rest : flat_map f (range_with_len (a + 1) (length xs)) ≡ flat_map g xs = flat_numbered f g xs d (a + 1) (λ k h. ap f (moved a k) ∙ same (suc k) (omega arith)) in
    ap (λ y. y ++ flat_map f (range_with_len (a + 1) (length xs))) first ∙ ap (λ l. g x ++ l) rest
  where
    add_none : (n : ℕ) → n ≡ n + 0
    add_none n = omega arith

    moved : (n k : ℕ) → (n + 1) + k ≡ n + suc k
    moved n k = omega arith

map_kept : {A B : Type 0} (f : B → A) (g : A → B) (xs : List A) → ((x : A) → IsIn x xs → f (g x) ≡ x) → map f (map g xs) ≡ xs
map_kept f g [] same = refl
map_kept f g (x ∷ xs) same = ap (λ y. y ∷ map f (map g xs)) (same x (inl refl)) ∙ ap (λ l. x ∷ l) (map_kept f g xs (λ y i. same y (inr i)))

-- an entry without its pattern
abbrev valued : Entry → Value
valued e = record { key = e.key; value = e.value; order = e.order; file = e.file; line = e.line }

abbrev value_made : List ℕ → List ℕ → ℕ → List ℕ → ℕ → Value
value_made key value order file line = record { key = key; value = value; order = order; file = file; line = line }

same_value : (v : Value) (key value file : List ℕ) → key ≡ v.key → value ≡ v.value → file ≡ v.file → value_made key value v.order file v.line ≡ value_made v.key v.value v.order v.file v.line
same_value v key value file a b c = ap (λ x. value_made x value v.order file v.line) a ∙ ap (λ x. value_made v.key x v.order file v.line) b ∙ ap (λ x. value_made v.key v.value v.order x v.line) c

module _ (es : List Entry) where
  abbrev all_paths : List (List Item)
  all_paths = paths_of es

  abbrev path_at : ℕ → List Item
  path_at i = get_or all_paths i []

  abbrev sets : List ByteSet
  sets = (draft_of es).sets

  abbrev nodes : List Node
  nodes = (said (draft_of es)).nodes

  abbrev values : List Value
  values = (said (draft_of es)).values

  levels : IsLevelByLevel all_paths
  levels = level_by_level all_paths (paths_tree (patterns_of es))

  counted : length nodes ≡ length all_paths
  counted = length-map (draft_of es).nodes (said_node sets) ∙ nodes_len es

  node_reported : (i : ℕ) → i < length nodes → node_at nodes i ≡ said_node sets (image_node es i (path_at i))
  node_reported i h =
      let inside : i < length (draft_of es).nodes = omega (arith, counted, nodes_len es) in
      get_or-map (said_node sets) (draft_of es).nodes i no_node nowhere inside ∙ ap (said_node sets) (node_is es i no_node inside)

  -- a label is said as it is in the path
  label_reported : (i : ℕ) (x : Item) (q : List Item) → IsIn (x ∷ q) all_paths → (y : Item) → last_label (x ∷ q) ≡ y → said_label sets (image_node es i (x ∷ q)) ≡ y
  label_reported i x q among (Byte b) e = rw e refl
  label_reported i x q among One e = rw e refl
  label_reported i x q among Many e = rw e refl
  label_reported i x q among (Among set) e =
      let there : IsIn set.bits (sets_of es) = set_there es (x ∷ q) set among e in
      let found : get_or (sets_of es) (number_in text_order (sets_of es) set.bits) [] ≡ set.bits = number_found text_order texts_order set.bits (sets_of es) [] there in
      let own : get_or sets (number_in text_order (sets_of es) set.bits) (as_set []) ≡ as_set set.bits =
      get_or-map as_set (sets_of es) (number_in text_order (sets_of es) set.bits) [] (as_set []) (number_within text_order texts_order set.bits (sets_of es) there) ∙ ap as_set found in
      rw e (ap Among own)

  label_of_path : (i : ℕ) (p : List Item) → IsIn p all_paths → 0 < length p → said_label sets (image_node es i p) ≡ get_or p (length p - 1) One
  label_of_path i [] among some = absurd (omega arith)
  label_of_path i (x ∷ q) among some = label_reported i x q among (last_label (x ∷ q)) refl

  count_reported : (i : ℕ) → i < length nodes → (node_at nodes i).count ≡ length (children_in all_paths (path_at i))
  count_reported i h = ap (λ (n : Node). n.count) (node_reported i h) ∙ sym (length-filter (is_child (path_at i)) all_paths)

  abbrev below : List (List Item) → List (List Item)
  below l = flat_map (children_in all_paths) l

  children_before : (p : ℕ) → p ≤ length nodes → length (below (take p all_paths)) ≡ sum_by (λ (n : Node). n.count) (take p nodes)
  children_before zero h = refl
  children_before (suc p) h =
      let inside : p < length nodes = omega arith in
      let more : take (suc p) all_paths ≡ take p all_paths ++ path_at p ∷ [] = rw (← add-one p) (take_more all_paths p [] (omega (arith, counted, inside))) in
      let left : below (take (suc p) all_paths) ≡ below (take p all_paths) ++ (children_in all_paths (path_at p) ++ []) =
      ap below more ∙ flat_map-append (children_in all_paths) (take p all_paths) (path_at p ∷ []) in
      let long : length (below (take (suc p) all_paths)) ≡ length (below (take p all_paths)) + length (children_in all_paths (path_at p) ++ []) =
      ap length left ∙ length-append (below (take p all_paths)) (children_in all_paths (path_at p) ++ []) in
      let last : length (children_in all_paths (path_at p) ++ []) ≡ (node_at nodes p).count = ap length (append-nil (children_in all_paths (path_at p))) ∙ sym (count_reported p inside) in
      let right : sum_by (λ (n : Node). n.count) (take (suc p) nodes) ≡ sum_by (λ (n : Node). n.count) (take p nodes) + (node_at nodes p).count =
      rw (← add-one p) (sum_by_more (λ (n : Node). n.count) nodes p nowhere inside) in
      omega (arith, long, last, right, children_before p (omega arith))

  module _ (shape : Shape nodes) where
    -- a child's path is its parent's and the child's label
    child_path : (c p j : ℕ) → c < length nodes → IsChild nodes c p j → path_at c ≡ path_at p ++ (node_at nodes c).label ∷ []
    child_path c p j h child =
        let parent : List Item = path_at p in
        let z : List Item = path_at c in
        let within : j < length (children_in all_paths parent) = subst (λ n. j < n) (count_reported p child.parent) child.inside in
        let before : length (below (take p all_paths)) ≡ sum_by (λ (n : Node). n.count) (take p nodes) = children_before p (omega (arith, child.parent)) in
        let place : c ≡ suc (length (below (take p all_paths)) + j) = omega (arith, child.place, shape.first p child.parent, before) in
        let found : z ≡ get_or (children_in all_paths parent) j [] =
        ap (λ i. get_or all_paths i []) place ∙ ap (λ l. get_or l (suc (length (below (take p all_paths)) + j)) []) (levels.first ∙ ap (λ l. [] ∷ l) (sym levels.children))
        ∙ get_or-flat_map (children_in all_paths) all_paths p j [] [] (omega (arith, child.parent, counted)) within in
        let among : IsIn z (children_in all_paths parent) = subst (λ l. IsIn l (children_in all_paths parent)) (sym found) (get_in [] (children_in all_paths parent) j within) in
        let own = in_filter (is_child parent) z all_paths among in
        let child_is : IsChildOf parent z = child_of parent z own.1 in
        let label : (node_at nodes c).label ≡ get_or z (length z - 1) One = ap (λ (n : Node). n.label) (node_reported c h) ∙ label_of_path c z own.0 (omega (arith, child_is.longer)) in
        let last : length z - 1 ≡ length parent = omega (arith, child_is.longer) in
        sym (take_all (length parent + 1) z (omega (arith, child_is.longer))) ∙ take_more z (length parent) One (omega (arith, child_is.longer))
        ∙ ap (λ l. l ++ get_or z (length parent) One ∷ []) child_is.begins
        ∙ ap (λ x. parent ++ x ∷ []) (sym (label ∙ ap (λ i. get_or z i One) last))

    path_reported : (i : ℕ) → i < length nodes → path nodes i ≡ path_at i
    path_reported = path_is nodes shape path_at (root_path es) child_path

    value_reported : (j : ℕ) → j < length (by_nodes es) → value_at values j ≡ valued (reported es j)
    value_reported j h =
        let inside : j < length (draft_of es).values = omega (arith, values_len es) in
        get_or-map (said_value (image_text es)) (draft_of es).values j no_record no_value inside
        ∙ ap (said_value (image_text es)) (value_is es j no_record inside)
        ∙ same_value (valued (reported es j)) (said_text (image_text es) (image_value es j (reported es j)).key) (said_text (image_text es) (image_value es j (reported es j)).value) (said_text (image_text es) (image_value es j (reported es j)).file)
        (key_read es j h) (value_read es j h) (name_read es (reported es j) (reported_in es j h))

    values_reported : (i : ℕ) → i < length nodes → values_of nodes values i ≡ map valued (ending_at es (path_at i))
    values_reported i h =
        let p : List Item = path_at i in
        let own : List Entry = ending_at es p in
        let inside : i < length all_paths = omega (arith, counted) in
        let prefix : ℕ = length (flat_map (ending_at es) (take i all_paths)) in
        let first : (node_at nodes i).first_value ≡ prefix = ap (λ (n : Node). n.first_value) (node_reported i h) ∙ sym (length-flat_map (ending_at es) (take i all_paths)) in
        let count : (node_at nodes i).values ≡ length own = ap (λ (n : Node). n.values) (node_reported i h) in
        let all : prefix + length own ≤ length (by_nodes es) = length-flat_map-take (ending_at es) all_paths i [] inside in
        ap (λ a. map (value_at values) (range_with_len a (node_at nodes i).values)) first ∙ ap (λ n. map (value_at values) (range_with_len prefix n)) count
        ∙ map_numbered (value_at values) valued own no_entry prefix (λ k less.
        value_reported (prefix + k) (omega (arith, all, less)) ∙ ap valued (get_or-flat_map (ending_at es) all_paths i k [] no_entry inside less))

    own_reported : (i : ℕ) → i < length nodes → map (entry (path nodes i)) (values_of nodes values i) ≡ ending_at es (path_at i)
    own_reported i h =
        ap (λ q. map (entry q) (values_of nodes values i)) (path_reported i h) ∙ ap (map (entry (path_at i))) (values_reported i h)
        ∙ map_kept (entry (path_at i)) valued (ending_at es (path_at i)) (λ e among. ap (λ q. entry q (valued e)) (sym (pattern_is es e (path_at i) among)))

    all_reported : listed nodes values ≡ by_nodes es
    all_reported =
        ap (λ n. flat_map (λ i. map (entry (path nodes i)) (values_of nodes values i)) (range_with_len 0 n)) counted
        ∙ flat_numbered (λ i. map (entry (path nodes i)) (values_of nodes values i)) (ending_at es) all_paths [] 0 (λ k h.
        let same : 0 + k ≡ k = zero-add k in
        ap (λ m. map (entry (path nodes m)) (values_of nodes values m)) same ∙ own_reported k (omega (arith, counted, h)))

module _ (es : List Entry) (rising : Rising es) (bounds : KeepsBounds es) (typed : AreTyped es) where
  says : contents (image es) ≡ said (draft_of es)
  unfolding image
  says = written_contents (draft_of es) (writable es rising bounds typed) (sound es rising bounds)

  shaped : Shape (said (draft_of es)).nodes
  shaped = tree (image es) (said (draft_of es)) says (image_accepted es rising bounds typed)

  pub image_lists : listed (contents (image es)).nodes (contents (image es)).values ≡ by_nodes es
  image_lists = ap (λ (c : Contents). listed c.nodes c.values) says ∙ all_reported es shaped

  -- its nodes have the paths of the entries
  pub image_paths : map (path (contents (image es)).nodes) (numbers (contents (image es)).nodes) ≡ paths_of es
  image_paths =
      ap (λ (c : Contents). map (path c.nodes) (numbers c.nodes)) says
      ∙ sym (fill_by_all (path (nodes es)) (paths_of es) (length (nodes es)) [] (sym (counted es)) (λ i h. sym (path_reported es shaped i h)))

  pub image_permutes : IsPermutation es (listed (contents (image es)).nodes (contents (image es)).values)
  image_permutes = subst (IsPermutation es) (sym image_lists) (nodes_permute es)
