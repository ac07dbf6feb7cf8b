-- How bytes, texts and sets compare.
use Rattle.std.proofs.Common.{◌≡◌, ℕ, List, [], ◌∷◌, length, refl, ◌∙◌, ap}
use Rattle.std.proofs.lemmas.Cmp.{nat_list_cmp_total, nat_cmp_total, lists_total, on_total, then_total, tied_itself}
use Rattle.std.specs.Cmp.Lexicographic.{slice_cmp}
use Rattle.std.specs.Ordering.{ordering_reverse, ordering_then, nat_cmp}
use Rattle.std.specs.Cmp.{IsTotalOrder}
use Rattle.std.specs.declared.cmp.Ordering.{Ordering}
use Rattle.std.specs.declared.cmp.Ordering.TheVariants.{Less, Equal, Greater}
use Rattle.trie_nodes.proofs.Keys.{same_key}
use Rattle.text_core.specs.declared.item.Item.{Item}
use Rattle.text_core.specs.declared.item.Item.TheVariants.{Byte, One, Many, Among}
use Rattle.trie_build.proofs.TotalOrder.{IsOrder}
use Rattle.trie_build.specs.Order.{label_cmp, label_key, path_cmp, pattern_cmp}
use Rattle.text_bytes.specs.Insertion.{text_order}

-- an order of which what ties is one
order_of : {A : Type 0} (cmp : A → A → Ordering) → IsTotalOrder cmp → ((x y : A) → cmp x y ≡ Equal → x ≡ y) → IsOrder cmp
order_of cmp o same = record {
  itself = tied_itself o;
  same = same;
  reversed = λ x y e. o.antisymm y x ∙ ap ordering_reverse e;
  trans = λ x y z e f. o.trans x y z e f;
}

both_tie : (o next : Ordering) → ordering_then o next ≡ Equal → (o ≡ Equal) × (next ≡ Equal)
both_tie Less next h = cc
both_tie Equal next h = (refl, h)
both_tie Greater next h = cc

same_lists : {A : Type 0} (cmp : A → A → Ordering) → ((x y : A) → cmp x y ≡ Equal → x ≡ y) → (xs ys : List A) → slice_cmp cmp xs ys ≡ Equal → xs ≡ ys
same_lists cmp same [] [] h = refl
same_lists cmp same [] (y ∷ ys) h = cc
same_lists cmp same (x ∷ xs) [] h = cc
same_lists cmp same (x ∷ xs) (y ∷ ys) h =
    let tie : (cmp x y ≡ Equal) × (slice_cmp cmp xs ys ≡ Equal) = both_tie (cmp x y) (slice_cmp cmp xs ys) h in
    let head : x ≡ y = same x y tie.0 in
    let rest : xs ≡ ys = same_lists cmp same xs ys tie.1 in
    cc

-- a label is known by its key
label_is : (x y : Item) → label_key x ≡ label_key y → x ≡ y
label_is (Byte b) (Byte c) h = cc
label_is (Byte b) One h = cc
label_is (Byte b) Many h = cc
label_is (Byte b) (Among t) h = cc
label_is One (Byte c) h = cc
label_is One One h = refl
label_is One Many h = cc
label_is One (Among t) h = cc
label_is Many (Byte c) h = cc
label_is Many One h = cc
label_is Many Many h = refl
label_is Many (Among t) h = cc
label_is (Among s) (Byte c) h = cc
label_is (Among s) One h = cc
label_is (Among s) Many h = cc
label_is (Among s) (Among t) h =
    let bits : s.bits ≡ t.bits = cc in
    ap (λ (b : List ℕ). Among (record { bits = b })) bits

labels_total : IsTotalOrder label_cmp
labels_total = on_total label_key nat_list_cmp_total

same_label : (x y : Item) → label_cmp x y ≡ Equal → x ≡ y
same_label x y h = label_is x y (same_key (label_key x) (label_key y) h)

paths_total : IsTotalOrder path_cmp
paths_total = then_total (on_total length nat_cmp_total) (lists_total labels_total)

pub paths_order : IsOrder path_cmp
paths_order = order_of path_cmp paths_total (λ p q h. same_lists label_cmp same_label p q (both_tie (nat_cmp (length p) (length q)) (slice_cmp label_cmp p q) h).1)

pub labels_order : IsOrder label_cmp
labels_order = order_of label_cmp labels_total same_label

pub patterns_total : IsTotalOrder pattern_cmp
patterns_total = lists_total labels_total

pub patterns_order : IsOrder pattern_cmp
patterns_order = order_of pattern_cmp patterns_total (same_lists label_cmp same_label)

pub texts_order : IsOrder text_order
texts_order = order_of text_order nat_list_cmp_total same_key
