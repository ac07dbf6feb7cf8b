-- Texts that are kept once, and the sets of nodes.
use Rattle.std.proofs.Common.{◌≡◌, ℕ, zero, suc, ◌+◌, ◌-◌, ◌<◌, ◌≤◌, length-append, Bool, List, ◌∷◌, [], ◌++◌, length, take, flat_map, get_or, nat_eq, fold, map, refl, sym, ◌∙◌, ap, subst, arith}
use Rattle.std.specs.Borrow.{Bor}
use Rattle.std.specs.List.{AllByRecursion, dedup, sum_by}
use Rattle.std.specs.List.Sorted.{IsPermutation, IsSorted, IsStrictlySortedBy}
use Rattle.std.specs.Cmp.Lexicographic.{on_texts, on_texts_equal, pointwise, texts_ties, same_text}
use Rattle.std.proofs.lemmas.List.Sums.{sum_by-cons, sum_by_more_le}
use Rattle.std.proofs.lemmas.List.Kept.{Any-dedup, Contains-from_dedup, IsStrictlySortedBy-dedup}
use Rattle.std.proofs.lemmas.List.Sorted.{Contains-permutation, IsPermutation-sym}
use Rattle.std.specs.declared.cmp.Ordering.{Ordering}
use Rattle.std.specs.declared.cmp.Ordering.TheVariants.{Less, Equal, Greater}
use Rattle.text_core.specs.declared.item.Item.{Item}
use Rattle.text_core.specs.declared.item.Item.TheVariants.{Byte, One, Many, Among}
use Rattle.trie_nodes.specs.declared.entry.Entry.{Entry}
use Rattle.std.proofs.Math.Seq.{get_or-append_seam}
use Rattle.trie_nodes.proofs.Shaped.{path_on, path_root, up}
use Rattle.trie_nodes.specs.Tree.{Shape, node_at, path}
use Rattle.trie_nodes.specs.declared.node.Node.{Node}
use Rattle.trie_build.specs.Distinct.{IsDistinctOf, IsIn, Rises, distinct, inserted}
use Rattle.trie_build.specs.Paths.{paths_of}
use Rattle.trie_build.specs.Sizes.{index_len, last_label, names_of, set_in, sets_of}
use Rattle.text_bytes.specs.Insertion.{text_order}
use Rattle.trie_build.proofs.Distinguishing.{distinct_is, in_map, map_in, one_list, placed}
use Rattle.trie_build.proofs.Orders.{texts_order}
use Rattle.trie_build.specs.Content.{Content, shown}
use Rattle.trie_build.specs.Held.{IsHeld}
use Rattle.trie_build.specs.Shown.{all_len, index_len_by, node_sets, own_len}
use Rattle.trie_build.proofs.Answering.{contains_of, in_of}

abbrev pub Text : Type 0
Text = Bor (List ℕ)

abbrev pub same : Text → Text → Bool
same x y = pointwise nat_eq x.now y.now

rises_shown : (ts : List Text) → IsStrictlySortedBy (λ x y. text_order x.now y.now) ts → Rises text_order (shown ts)
unfolding IsStrictlySortedBy
rises_shown [] h = tt
rises_shown (t ∷ ts) h = (each ts h.0, rises_shown ts h.1) where
  each : (us : List Text) → AllByRecursion (λ y. text_order t.now y.now ≡ Less) us → AllByRecursion (λ y. text_order t.now y ≡ Less) (shown us)
  each [] k = tt
  each (u ∷ us) k = (k.0, each us k.1)

dedup_only : (ts : List Text) (z : List ℕ) → IsIn z (shown (dedup same ts)) → IsIn z (shown ts)
dedup_only ts z i =
    let w = in_map (λ (t : Text). t.now) z (dedup same ts) i in
    subst (λ v. IsIn v (shown ts)) (sym w.2) (map_in (λ (t : Text). t.now) w.0 ts (in_of w.0 ts (Contains-from_dedup same ts w.0 (contains_of w.0 (dedup same ts) w.1))))

dedup_has : (ts : List Text) (z : List ℕ) → IsIn z (shown ts) → IsIn z (shown (dedup same ts))
dedup_has ts z i =
    let w = in_map (λ (t : Text). t.now) z ts i in
    let kept = Any-dedup (on_texts_equal (λ (t : Text). t.now)) ts w.0 (contains_of w.0 ts w.1) in
    let other : Text = kept.1 in
    let one : w.0.now ≡ other.now = same_text w.0.now other.now (sym kept.4) in
    subst (λ v. IsIn v (shown (dedup same ts))) (sym (w.2 ∙ one)) (map_in (λ (t : Text). t.now) other (dedup same ts) (in_of other (dedup same ts) (kept.0, kept.2, kept.3)))

moved : (ts us : List Text) (z : List ℕ) → IsPermutation ts us → IsIn z (shown ts) → IsIn z (shown us)
moved ts us z p i =
    let w = in_map (λ (t : Text). t.now) z ts i in
    subst (λ v. IsIn v (shown us)) (sym w.2) (map_in (λ (t : Text). t.now) w.0 us (in_of w.0 us (Contains-permutation ts us w.0 p (contains_of w.0 ts w.1))))

pub once : (old first sorted new : List Text) → first ≡ dedup same old → IsPermutation first sorted → IsSorted (λ x y. text_order x.now y.now) sorted → new ≡ dedup same sorted
    → shown new ≡ distinct text_order (shown old)
once old first sorted new e p up f =
    let is : IsDistinctOf text_order (shown old) (distinct text_order (shown old)) = distinct_is text_order texts_order (shown old) in
    let rises : Rises text_order (shown new) = subst (λ l. Rises text_order (shown l)) (sym f) (rises_shown (dedup same sorted) (IsStrictlySortedBy-dedup (on_texts (λ (t : Text). t.now)) (λ x y. texts_ties x.now y.now) sorted up)) in
    one_list text_order texts_order (shown new) (distinct text_order (shown old)) rises is.rises
    (λ z i.
    let kept : IsIn z (shown sorted) = dedup_only sorted z (subst (λ l. IsIn z (shown l)) f i) in
    let before : IsIn z (shown first) = moved sorted first z (IsPermutation-sym first sorted p) kept in
    is.has z (dedup_only old z (subst (λ l. IsIn z (shown l)) e before)))
    (λ z i.
    let all : IsIn z (shown first) = subst (λ l. IsIn z (shown l)) (sym e) (dedup_has old z (is.only z i)) in
    subst (λ l. IsIn z (shown l)) (sym f) (dedup_has sorted z (moved first sorted z p all)))

-- the last label of a node's path is the node's own
pub own_label : (nodes : List Node) → Shape nodes → (i : ℕ) → i < length nodes → (node_at nodes i).label ≡ last_label (path nodes i)
own_label nodes s zero h = s.root ∙ sym (ap last_label (path_root nodes))
own_label nodes s (suc i) h =
    let prefix : List Item = path nodes (up nodes (suc i)) in
    let label : Item = (node_at nodes (suc i)).label in
    let is : path nodes (suc i) ≡ prefix ++ label ∷ [] = path_on nodes s (suc i) (omega arith) h in
    let last : length (path nodes (suc i)) - 1 ≡ length prefix = let e : length (path nodes (suc i)) ≡ length prefix + 1 = ap length is ∙ length-append prefix (label ∷ []) in omega (arith, e) in
    sym (ap (λ n. get_or (path nodes (suc i)) n One) last ∙ ap (λ l. get_or l (length prefix) One) is ∙ get_or-append_seam prefix label [] One)

-- the sets of the nodes' labels are those of the paths' last labels
pub same_sets : (nodes : List Node) (paths : List (List Item)) → length nodes ≡ length paths
    → ((i : ℕ) → i < length nodes → (node_at nodes i).label ≡ last_label (get_or paths i [])) → flat_map (λ n. set_in n.label) nodes ≡ flat_map (λ p. set_in (last_label p)) paths
same_sets [] [] e h = refl
same_sets [] (p ∷ ps) e h = absurd (omega arith)
same_sets (n ∷ ns) [] e h = absurd (omega arith)
same_sets (n ∷ ns) (p ∷ ps) e h =
    let head : n.label ≡ last_label p = h 0 (omega arith) in
    ap (λ x. set_in x ++ flat_map (λ m. set_in m.label) ns) head
    ∙ ap (λ l. set_in (last_label p) ++ l) (same_sets ns ps (omega arith) (λ i k. h (suc i) (omega arith)))

pub shown_len : (ts : List Text) → sum_by (λ t. length t.now) ts ≡ sum_by length (shown ts)
shown_len [] = refl
shown_len (t ∷ ts) = sum_by-cons (λ (u : Text). length u.now) t ts ∙ ap (λ n. length t.now + n) (shown_len ts) ∙ sym (sum_by-cons length t.now (shown ts))

-- a text that does not fit into what is left does not fit with all others
pub over : (ts : List Text) (i left room : ℕ) (d : Text) → i < length ts → left + sum_by (λ t. length t.now) (take i ts) ≡ room → left < length (get_or ts i d).now
    → sum_by (λ t. length t.now) ts ≤ room → ⊥
over ts i left room d h so_far long all = let more : sum_by (λ t. length t.now) (take i ts) + length (get_or ts i d).now ≤ sum_by (λ t. length t.now) ts = sum_by_more_le (λ (t : Text). length t.now) ts i d h in omega (arith, more, so_far, long, all)

-- the sets of the nodes are those of the entries
pub sets_are : (t : Content) → IsHeld t → node_sets t.nodes ≡ sets_of t.entries
sets_are t is = ap (distinct text_order) (same_sets t.nodes (paths_of t.entries) is.count (λ i h. own_label t.nodes is.shape i h ∙ ap last_label (is.paths i h)))

-- the index that is measured is that of the entries
pub measured : (t : Content) → IsHeld t → index_len_by t.nodes t.entries ≡ index_len t.entries
measured t is = let len : length (node_sets t.nodes) ≡ length (sets_of t.entries) = ap length (sets_are t is) in omega (arith, is.count, len)

-- what is kept once adds up to no more than all of it
module _ {A : Type 0} (f : A → ℕ) (cmp : A → A → Ordering) where
  place_sum : (x : A) (ys : List A) → sum_by f (inserted cmp x ys) ≤ f x + sum_by f ys
  place_sum x [] = omega (arith, sum_by-cons f x [])
  place_sum x (y ∷ ys) = by (cmp x y) (place_sum x ys) where
    by : (o : Ordering) → sum_by f (inserted cmp x ys) ≤ f x + sum_by f ys → sum_by f (placed o x y ys (inserted cmp x ys)) ≤ f x + sum_by f (y ∷ ys)
    by Less h = omega (arith, sum_by-cons f x (y ∷ ys))
    by Equal h = omega arith
    by Greater h = omega (arith, h, sum_by-cons f y (inserted cmp x ys), sum_by-cons f y ys)

  fold_sum : (acc xs : List A) → sum_by f (fold (λ ys x. inserted cmp x ys) acc xs) ≤ sum_by f acc + sum_by f xs
  fold_sum acc [] = omega arith
  fold_sum acc (x ∷ xs) = omega (arith, fold_sum (inserted cmp x acc) xs, place_sum x acc, sum_by-cons f x xs)

  pub distinct_sum : (xs : List A) → sum_by f (distinct cmp xs) ≤ sum_by f xs
  distinct_sum xs = omega (arith, fold_sum [] xs)

-- what is kept once is at most all of it
module _ {A : Type 0} (cmp : A → A → Ordering) where
  place_len : (x : A) (ys : List A) → length (inserted cmp x ys) ≤ length ys + 1
  place_len x [] = omega arith
  place_len x (y ∷ ys) = by (cmp x y) (place_len x ys) where
    by : (o : Ordering) → length (inserted cmp x ys) ≤ length ys + 1 → length (placed o x y ys (inserted cmp x ys)) ≤ length (y ∷ ys) + 1
    by Less h = omega arith
    by Equal h = omega arith
    by Greater h = omega (arith, h)

  fold_len : (acc xs : List A) → length (fold (λ ys x. inserted cmp x ys) acc xs) ≤ length acc + length xs
  fold_len acc [] = omega arith
  fold_len acc (x ∷ xs) = omega (arith, fold_len (inserted cmp x acc) xs, place_len x acc)

  pub distinct_len : (xs : List A) → length (distinct cmp xs) ≤ length xs
  distinct_len xs = omega (arith, fold_len [] xs)

-- a label has at most one set, and nodes at most one each
set_few : (x : Item) → length (set_in x) ≤ 1
set_few (Byte b) = omega arith
set_few One = omega arith
set_few Many = omega arith
set_few (Among set) = omega arith

sets_in_few : (nodes : List Node) → length (flat_map (λ n. set_in n.label) nodes) ≤ length nodes
sets_in_few [] = omega arith
sets_in_few (n ∷ ns) = omega (arith, length-append (set_in n.label) (flat_map (λ m. set_in m.label) ns), set_few n.label, sets_in_few ns)

pub few_sets : (nodes : List Node) → length (node_sets nodes) ≤ length nodes
few_sets nodes = omega (arith, distinct_len text_order (flat_map (λ n. set_in n.label) nodes), sets_in_few nodes)

-- the texts of entries, each file's name once, are no longer than with a name for each entry
files_sum : (es : List Entry) → sum_by own_len es + sum_by length (map (λ e. e.file) es) ≡ sum_by all_len es
files_sum [] = refl
files_sum (e ∷ es) = omega (arith, sum_by-cons own_len e es, sum_by-cons all_len e es, sum_by-cons length e.file (map (λ x. x.file) es), files_sum es)

pub short_names : (es : List Entry) → sum_by own_len es + sum_by length (names_of es) ≤ sum_by all_len es
short_names es = omega (arith, distinct_sum length text_order (map (λ e. e.file) es), files_sum es)
