-- A group is cut into its children, run by run.
use Rattle.std.proofs.Common.{◌≡◌, ℕ, suc, ◌+◌, ◌<◌, ◌≤◌, List, ◌∷◌, [], ◌++◌, length, take, drop, map, get_or, refl, sym, ◌∙◌, ap, subst, arith, inl, inr, ◌⊎◌, length-append}
use Rattle.std.proofs.Math.Logic.{⊎_elim}
use Rattle.std.proofs.Math.ListN.{drop_of_length-le}
use Rattle.std.proofs.Math.Seq.{drop-cons, take-length}
use Rattle.std.proofs.lemmas.Bool.Decides.{leb_tells}
use Rattle.std.proofs.lemmas.List.{take-take, take_all, take_more, take-append-drop, drop-append-le, take-append-le, map-append, append-nil, get_or-take}
use Rattle.std.specs.declared.cmp.Ordering.{Ordering}
use Rattle.std.specs.declared.cmp.Ordering.TheVariants.{Less, Equal, Greater}
use Rattle.std.specs.Ordering.{ordering_then}
use Rattle.text_core.specs.declared.item.Item.{Item}
use Rattle.text_core.specs.declared.item.Item.TheVariants.{One}
use Rattle.trie_build.specs.Distinct.{IsIn, Rises}
use Rattle.trie_build.specs.Order.{label_cmp, path_cmp, pattern_cmp}
use Rattle.trie_build.specs.Paths.{children_in, is_child, paths_among}
use Rattle.trie_build.proofs.Children.{IsChildOf, child_of, children_rise, of_child, same_prefix}
use Rattle.trie_build.proofs.Distinguishing.{append_left, append_right, filter_in, get_in, in_append, in_filter, in_get, one_list, rises_append, rises_filter}
use Rattle.trie_build.proofs.Orders.{labels_order, paths_order}
use Rattle.trie_build.proofs.Paths.{path_is_prefix, paths_tree, prefix_is_path}
use Rattle.trie_build.specs.declared.groups.Group.{Group}
use Rattle.trie_build.specs.Groups.{AreChildren, IsGroup, IsRun, IsSplit, label_at, path_of}
use Rattle.trie_build.specs.Rows.{IsSorted, pattern_at}

-- the groups for the rows of g from one place up to another follow the old ones
pub record IsSoFar (ps : List (List Item)) (g : Group) (from at : ℕ) (old new : List Group) : Type 0 where
  pub kept : take (length old) new ≡ old
  pub longer : length old ≤ length new
  pub start : from ≤ at
  pub end : at ≤ g.end
  pub below : (x y : ℕ) → from ≤ x → x < at → at ≤ y → y < g.end → label_cmp (label_at ps g.depth x) (label_at ps g.depth y) ≡ Less
  pub groups : (c : Group) → IsIn c (drop (length old) new) → IsGroup ps c
  pub rises : Rises path_cmp (map (path_of ps) (drop (length old) new))
  pub sound : (q : List Item) → IsIn q (map (path_of ps) (drop (length old) new)) → (x : ℕ) × (from ≤ x) × (x < at) × (q ≡ take (g.depth + 1) (pattern_at ps x))
  pub whole : (x : ℕ) → from ≤ x → x < at → IsIn (take (g.depth + 1) (pattern_at ps x)) (map (path_of ps) (drop (length old) new))

less_of : (o : Ordering) → (o ≡ Equal → ⊥) → (o ≡ Greater → ⊥) → o ≡ Less
less_of Less h k = refl
less_of Equal h k = absurd (h refl)
less_of Greater h k = absurd (k refl)

not_itself : (x y : Item) → x ≡ y → label_cmp x y ≡ Less → ⊥
not_itself x y e less = let tie : label_cmp x y ≡ Equal = ap (label_cmp x) (sym e) ∙ labels_order.itself x in cc

-- the patterns of a group, if they are longer from some place on
pub split_at : (ps : List (List Item)) → IsSorted ps → (g : Group) → IsGroup ps g → (at : ℕ) → g.start ≤ at → at < g.end
    → ((x : ℕ) → g.start ≤ x → x < at → length (pattern_at ps x) ≡ g.depth) → g.depth < length (pattern_at ps at) → IsSplit ps g at
split_at ps sorted g group at h k own long = record {
  start = h;
  end = omega arith;
  own = own;
  longer = λ y i l. elim (leb_tells y at) [
    | inl t ↦ let e : at ≡ y = omega (arith, t.1) in subst (λ z. g.depth < length (pattern_at ps z)) e long
    | inr t ↦ following y t.1 l
  ];
} where
  following : (y : ℕ) → at < y → y < g.end → g.depth < length (pattern_at ps y)
  following y i l = elim (leb_tells (length (pattern_at ps y)) g.depth) [
    | inl t ↦
        let p : List Item = pattern_at ps at in
        let q : List Item = path_of ps g in
        let r : List Item = drop (suc g.depth) p in
        let label : Item = label_at ps g.depth at in
        let first : q ++ label ∷ r ≡ p =
        ap (λ (u : List Item). u ++ label ∷ r) (sym (group.inside at h k)) ∙ ap (λ (u : List Item). take g.depth p ++ u) (sym (drop-cons p g.depth One long)) ∙ take-append-drop g.depth p in
        let last : q ++ [] ≡ pattern_at ps y = append-nil q ∙ sym (group.inside y (omega arith) l) ∙ take_all g.depth (pattern_at ps y) t.1 in
        let above : pattern_cmp p (pattern_at ps y) ≡ Greater =
        ap (λ u. pattern_cmp u (pattern_at ps y)) (sym first) ∙ ap (pattern_cmp (q ++ label ∷ r)) (sym last) ∙ same_prefix q (label ∷ r) [] in
        absurd (sorted at y i (omega (arith, group.within)) above)
    | inr t ↦ t.1
  ]

-- of two numbers, the one is below the other or not
below_or : (x y : ℕ) → (x < y) ⊎ (y ≤ x)
below_or x y = elim (leb_tells y x) [ inl t ↦ inr t.1 | inr t ↦ inl t.1 ]

module _ (ps : List (List Item)) (sorted : IsSorted ps) (g : Group) (group : IsGroup ps g) (from : ℕ) (cut : IsSplit ps g from) where
  abbrev q : List Item
  q = path_of ps g

  abbrev label : ℕ → Item
  label x = label_at ps g.depth x

  abbrev prefix : ℕ → List Item
  prefix x = take (g.depth + 1) (pattern_at ps x)

  -- a longer pattern is the path, its label and a rest
  whole_is : (x : ℕ) → from ≤ x → x < g.end → q ++ label x ∷ drop (suc g.depth) (pattern_at ps x) ≡ pattern_at ps x
  whole_is x h k =
      ap (λ (l : List Item). l ++ label x ∷ drop (suc g.depth) (pattern_at ps x)) (sym (group.inside x (omega (arith, cut.start)) k))
      ∙ ap (λ (l : List Item). take g.depth (pattern_at ps x) ++ l) (sym (drop-cons (pattern_at ps x) g.depth One (cut.longer x h k)))
      ∙ take-append-drop g.depth (pattern_at ps x)

  prefix_is : (x : ℕ) → from ≤ x → x < g.end → prefix x ≡ q ++ label x ∷ []
  prefix_is x h k =
      take_more (pattern_at ps x) g.depth One (cut.longer x h k)
      ∙ ap (λ (l : List Item). l ++ label x ∷ []) (group.inside x (omega (arith, cut.start)) k)

  length_prefix : (x : ℕ) → from ≤ x → x < g.end → length (prefix x) ≡ g.depth + 1
  length_prefix x h k = ap length (prefix_is x h k) ∙ length-append q (label x ∷ []) ∙ ap (λ n. n + 1) group.depth

  labels_up : (x y : ℕ) → from ≤ x → x < y → y < g.end → label_cmp (label x) (label y) ≡ Greater → ⊥
  labels_up x y h k l greater =
      let rx : List Item = drop (suc g.depth) (pattern_at ps x) in
      let ry : List Item = drop (suc g.depth) (pattern_at ps y) in
      let far : pattern_cmp (q ++ label x ∷ rx) (q ++ label y ∷ ry) ≡ Greater = same_prefix q (label x ∷ rx) (label y ∷ ry) ∙ ap (λ o. ordering_then o (pattern_cmp rx ry)) greater in
      let whole : pattern_cmp (pattern_at ps x) (pattern_at ps y) ≡ Greater =
      ap (λ p. pattern_cmp p (pattern_at ps y)) (sym (whole_is x h (omega arith)))
      ∙ ap (pattern_cmp (q ++ label x ∷ rx)) (sym (whole_is y (omega arith) l)) ∙ far in
      sorted x y k (omega (arith, group.within)) whole

  prefixes_rise : (x y : ℕ) → from ≤ x → x < g.end → from ≤ y → y < g.end → label_cmp (label x) (label y) ≡ Less → path_cmp (prefix x) (prefix y) ≡ Less
  prefixes_rise x y h k i l less =
      ap (λ p. path_cmp p (prefix y)) (prefix_is x h k) ∙ ap (path_cmp (q ++ label x ∷ [])) (prefix_is y i l) ∙ children_rise q (label x) (label y) less

  pub start : (old : List Group) → IsSoFar ps g from from old old
  start old =
      let none : drop (length old) old ≡ [] = drop_of_length-le old (omega arith) in
      record {
        kept = take-length old;
        longer = omega arith;
        start = omega arith;
        end = cut.end;
        below = λ x y h k. absurd (omega arith);
        groups = λ c i. absurd (subst (IsIn c) none i);
        rises = subst (λ l. Rises path_cmp (map (path_of ps) l)) (sym none) tt;
        sound = λ p i. absurd (subst (λ l. IsIn p (map (path_of ps) l)) none i);
        whole = λ x h k. absurd (omega arith);
      }

  -- one run more
  module _ (at stop : ℕ) (old new new2 : List Group) (so_far : IsSoFar ps g from at old new) (run : IsRun ps at g.end g.depth stop) (c : Group)
      (c_start : c.start ≡ at) (c_end : c.end ≡ stop) (c_depth : c.depth ≡ g.depth + 1) (pushed : new2 ≡ new ++ c ∷ []) where
    abbrev added : List Group
    added = drop (length old) new

    added_more : drop (length old) new2 ≡ added ++ c ∷ []
    added_more = ap (drop (length old)) pushed ∙ drop-append-le (length old) new (c ∷ []) so_far.longer

    paths_more : map (path_of ps) (drop (length old) new2) ≡ map (path_of ps) added ++ path_of ps c ∷ []
    paths_more = ap (map (path_of ps)) added_more ∙ map-append (path_of ps) added (c ∷ [])

    inside : at < g.end
    inside = omega (arith, run.more, run.within)

    own_path : path_of ps c ≡ prefix at
    own_path = ap (λ n. take n (pattern_at ps c.start)) c_depth ∙ ap (λ x. prefix x) c_start

    one_label : (x : ℕ) → at ≤ x → x < stop → label at ≡ label x
    one_label x h k = labels_order.same (label at) (label x) (run.same x h k)

    next_above : (y : ℕ) → stop ≤ y → y < g.end → label_cmp (label at) (label y) ≡ Less
    next_above y h k =
        let here : label_cmp (label at) (label stop) ≡ Less =
        less_of (label_cmp (label at) (label stop)) (run.next (omega arith)) (labels_up at stop so_far.start run.more (omega arith)) in
        ⊎_elim (λ (more : stop < y). by (label_cmp (label stop) (label y)) refl here more) (λ (least : y ≤ stop). let e : stop ≡ y = omega arith in subst (λ z. label_cmp (label at) (label z) ≡ Less) e here) (below_or stop y) where
          by : (o : Ordering) → label_cmp (label stop) (label y) ≡ o → label_cmp (label at) (label stop) ≡ Less → stop < y → label_cmp (label at) (label y) ≡ Less
          by Less e here more = labels_order.trans (label at) (label stop) (label y) here e
          by Equal e here more = subst (λ z. label_cmp (label at) z ≡ Less) (labels_order.same (label stop) (label y) e) here
          by Greater e here more = absurd (labels_up stop y (omega (arith, so_far.start, run.more)) more k e)

    below_more : (x y : ℕ) → from ≤ x → x < stop → stop ≤ y → y < g.end → label_cmp (label x) (label y) ≡ Less
    below_more x y h k i l = ⊎_elim (λ (less : x < at). so_far.below x y h less (omega (arith, run.more)) l) (λ (more : at ≤ x). subst (λ z. label_cmp z (label y) ≡ Less) (one_label x more k) (next_above y i l)) (below_or x at)

    prefix_same : (x : ℕ) → at ≤ x → x < stop → prefix x ≡ prefix at
    prefix_same x h k =
        prefix_is x (omega (arith, so_far.start)) (omega (arith, run.within)) ∙ ap (λ z. q ++ z ∷ []) (sym (one_label x h k))
        ∙ sym (prefix_is at so_far.start inside)

    shorter : (x : ℕ) → take g.depth (prefix x) ≡ take g.depth (pattern_at ps x)
    shorter x = take-take g.depth (g.depth + 1) (pattern_at ps x) (omega arith)

    found : (x : ℕ) → x < length ps → prefix x ≡ prefix at → (at ≤ x) × (x < stop)
    found x h e =
        let alike : take g.depth (pattern_at ps x) ≡ q = sym (shorter x) ∙ ap (take g.depth) e ∙ shorter at ∙ group.inside at (omega (arith, cut.start, so_far.start)) inside in
        let here : (g.start ≤ x) × (x < g.end) = group.outside x h alike in
        let len : length (prefix x) ≡ g.depth + 1 = ap length e ∙ length_prefix at so_far.start inside in
        let long : from ≤ x = ⊎_elim (λ (less : x < from).
        let own : length (pattern_at ps x) ≡ g.depth = cut.own x here.0 less in
        let all : prefix x ≡ pattern_at ps x = take_all (g.depth + 1) (pattern_at ps x) (omega (arith, own)) in
        let bad : length (prefix x) ≡ g.depth = ap length all ∙ own in absurd (omega (arith, len, bad))) (λ more. more) (below_or x from) in
        let tie : label x ≡ label at =
        sym (get_or-take (g.depth + 1) (pattern_at ps x) g.depth One (omega arith)) ∙ ap (λ l. get_or l g.depth One) e ∙ get_or-take (g.depth + 1) (pattern_at ps at) g.depth One (omega arith) in (
          ⊎_elim (λ (less : x < at). absurd (not_itself (label x) (label at) tie (so_far.below x at long less (omega arith) inside))) (λ more. more) (below_or x at),
          ⊎_elim (λ less. less) (λ (more : stop ≤ x). absurd (not_itself (label at) (label x) (sym tie) (next_above x more here.1))) (below_or x stop),
        )

    new_group : IsGroup ps c
    new_group = record {
      ordered = omega (arith, c_start, c_end, run.more);
      within = omega (arith, c_end, run.within, group.within);
      depth = ap length own_path ∙ length_prefix at so_far.start inside ∙ sym c_depth;
      inside = λ x h k. ap (λ n. take n (pattern_at ps x)) c_depth ∙ prefix_same x (omega (arith, c_start)) (omega (arith, c_end)) ∙ sym own_path;
      outside = λ x h e.
          let w : (at ≤ x) × (x < stop) = found x h (ap (λ n. take n (pattern_at ps x)) (sym c_depth) ∙ e ∙ own_path) in
          (omega (arith, c_start, w.0), omega (arith, c_end, w.1));
    }

    pub one_more : IsSoFar ps g from stop old new2
    one_more = record {
      kept = ap (take (length old)) pushed ∙ take-append-le (length old) new (c ∷ []) so_far.longer ∙ so_far.kept;
      longer = let len : length new2 ≡ length new + 1 = ap length pushed ∙ length-append new (c ∷ []) in omega (arith, len, so_far.longer);
      start = omega (arith, so_far.start, run.more);
      end = run.within;
      below = below_more;
      groups = λ d i. ⊎_elim (λ old_one. so_far.groups d old_one) (λ new_one. ⊎_elim (λ e. subst (IsGroup ps) (sym e) new_group) (λ none. absurd none) new_one)
          (in_append d added (c ∷ []) (subst (IsIn d) added_more i));
      rises = subst (Rises path_cmp) (sym paths_more) (rises_append path_cmp (map (path_of ps) added) (path_of ps c ∷ []) so_far.rises (tt, tt) (λ a b i j.
          let w = so_far.sound a i in
          let is : b ≡ prefix at = ⊎_elim (λ e. e ∙ own_path) (λ none. absurd none) j in
          ap (λ p. path_cmp p b) w.3 ∙ ap (path_cmp (prefix w.0)) is
          ∙ prefixes_rise w.0 at w.1 (omega (arith, w.2, inside)) so_far.start inside (so_far.below w.0 at w.1 w.2 (omega arith) inside)));
      sound = λ p i. ⊎_elim (λ old_one. let w = so_far.sound p old_one in (w.0, w.1, omega (arith, w.2, run.more), w.3))
          (λ new_one. (at, so_far.start, run.more, ⊎_elim (λ e. e ∙ own_path) (λ none. absurd none) new_one))
          (in_append p (map (path_of ps) added) (path_of ps c ∷ []) (subst (IsIn p) paths_more i));
      whole = λ x h k. subst (IsIn (prefix x)) (sym paths_more) (⊎_elim
          (λ (less : x < at). append_left (prefix x) (map (path_of ps) added) (path_of ps c ∷ []) (so_far.whole x h less))
          (λ (more : at ≤ x). append_right (prefix x) (map (path_of ps) added) (path_of ps c ∷ []) (inl (prefix_same x more k ∙ sym own_path)))
          (below_or x at));
    }

  -- all runs
  module _ (at : ℕ) (old new : List Group) (so_far : IsSoFar ps g from at old new) (done : g.end ≤ at) where
    abbrev made : List (List Item)
    made = map (path_of ps) (drop (length old) new)

    to : (z : List Item) → IsIn z made → IsIn z (children_in (paths_among ps) q)
    to z i =
        let w = so_far.sound z i in
        let here : w.0 < g.end = omega (arith, w.2, so_far.end) in
        let p : List Item = pattern_at ps w.0 in
        let long : g.depth < length p = cut.longer w.0 w.1 here in
        let there : IsIn z (paths_among ps) = subst (λ l. IsIn l (paths_among ps)) (sym w.3) (prefix_is_path ps p (g.depth + 1) (get_in [] ps w.0 (omega (arith, here, group.within))) (omega (arith, long))) in
        let len : length z ≡ length q + 1 = ap length w.3 ∙ length_prefix w.0 w.1 here ∙ ap (λ n. n + 1) (sym group.depth) in
        let begins : take (length q) z ≡ q =
        ap (λ n. take n z) group.depth ∙ ap (take g.depth) w.3 ∙ take-take g.depth (g.depth + 1) p (omega arith) ∙ group.inside w.0 (omega (arith, w.1, cut.start)) here in
        filter_in (is_child q) z (paths_among ps) there (of_child q z len begins)

    fro : (z : List Item) → IsIn z (children_in (paths_among ps) q) → IsIn z made
    fro z i =
        let kept = in_filter (is_child q) z (paths_among ps) i in
        let child : IsChildOf q z = child_of q z kept.1 in
        let w = path_is_prefix ps z kept.0 (omega (arith, child.longer)) in
        let p : List Item = w.0 in
        let n = in_get [] p ps w.1 in
        let x : ℕ = n.0 in
        let is : p ≡ pattern_at ps x = n.2 in
        let len : length z ≡ g.depth + 1 = child.longer ∙ ap (λ k. k + 1) group.depth in
        let z_is : z ≡ take (g.depth + 1) (pattern_at ps x) = w.3 ∙ ap (λ k. take k p) len ∙ ap (take (g.depth + 1)) is in
        let alike : take g.depth (pattern_at ps x) ≡ q =
        sym (take-take g.depth (g.depth + 1) (pattern_at ps x) (omega arith)) ∙ ap (take g.depth) (sym z_is) ∙ ap (λ k. take k z) (sym group.depth) ∙ child.begins in
        let here : (g.start ≤ x) × (x < g.end) = group.outside x n.1 alike in
        let long : g.depth + 1 ≤ length (pattern_at ps x) = let e : length p ≡ length (pattern_at ps x) = ap length is in omega (arith, w.2, len, e) in
        let following : from ≤ x = ⊎_elim (λ (less : x < from). let own : length (pattern_at ps x) ≡ g.depth = cut.own x here.0 less in absurd (omega (arith, own, long))) (λ more. more) (below_or x from) in
        subst (λ l. IsIn l made) (sym z_is) (so_far.whole x following (omega (arith, here.1, done)))

    pub all_made : AreChildren ps g old new
    all_made = record {
      kept = so_far.kept;
      longer = so_far.longer;
      groups = so_far.groups;
      paths = one_list path_cmp paths_order made (children_in (paths_among ps) q) so_far.rises (rises_filter path_cmp (is_child q) (paths_among ps) (paths_tree ps).rises) to fro;
    }
