-- The groups of sorted patterns, level by level, are the paths of their trie.
use Rattle.std.proofs.Common.{◌≡◌, ℕ, zero, suc, ◌+◌, ◌-◌, ◌<◌, ◌≤◌, List, ◌∷◌, [], ◌++◌, length, take, drop, map, get_or, refl, sym, ◌∙◌, ap, subst, arith, inl, inr, length-append, zero-add, add-one}
use Rattle.std.proofs.Math.Logic.{⊎_elim}
use Rattle.std.proofs.Math.ListN.{get_or-append}
use Rattle.std.proofs.Math.Seq.{get_or-append_seam, take-length}
use Rattle.std.proofs.lemmas.Bool.Decides.{leb_tells}
use Rattle.std.proofs.lemmas.List.{append-nil, get_or-map, get_or_default, get_or-take, length-drop, length-map, map-append, take-append-drop, take-append-le, take_all, take_more}
use Rattle.std.proofs.lemmas.List.Concat.{flat_map-append, get_or-flat_map}
use Rattle.std.proofs.lemmas.List.Sums.{sum_by-append, sum_by_more}
use Rattle.std.specs.List.{flat_map, sum_by}
use Rattle.text_core.specs.declared.item.Item.{Item}
use Rattle.text_core.specs.declared.item.Item.TheVariants.{One}
use Rattle.trie_nodes.proofs.Shaped.{IsChild, path_is}
use Rattle.trie_nodes.specs.Tree.{Shape, node_at, nowhere}
use Rattle.trie_nodes.specs.declared.node.Node.{Node}
use Rattle.trie_build.specs.Distinct.{IsIn}
use Rattle.trie_build.specs.Paths.{children_in, is_child, paths_among}
use Rattle.trie_build.specs.Tree.{IsLevelByLevel}
use Rattle.trie_build.proofs.Children.{IsChildOf, child_of, level_by_level}
use Rattle.trie_build.proofs.Distinguishing.{get_in, in_append, in_filter}
use Rattle.trie_build.proofs.Later.{children_enough}
use Rattle.trie_build.proofs.Paths.{paths_tree}
use Rattle.trie_build.specs.Building.{AreNodes, IsNodeAt}
use Rattle.trie_build.specs.Groups.{AreChildren, IsGroup, IsSplit, label_at, path_of}
use Rattle.trie_build.specs.Rows.{pattern_at}
use Rattle.trie_build.specs.declared.groups.Group.{Group}
use Rattle.trie_build.proofs.Numbering.{IsNumbered, numbered_more, shape_from}

-- a group, for numbers that none has
abbrev pub no_group : Group
no_group = record { start = 0; end = 0; depth = 0 }

-- so many nodes are made, of the first of the groups
pub record IsBuilt (ps : List (List Item)) (nodes : List Node) (groups : List Group) : Type 0 where
  pub numbered : IsNumbered nodes (length nodes)
  pub ahead : length nodes ≤ length groups
  pub sum : length groups ≡ 1 + sum_by (λ n. n.count) nodes
  pub valid : (c : Group) → IsIn c groups → IsGroup ps c
  pub paths : map (path_of ps) groups ≡ [] ∷ flat_map (children_in (paths_among ps)) (take (length nodes) (map (path_of ps) groups))
  pub prefix : take (length nodes) (paths_among ps) ≡ take (length nodes) (map (path_of ps) groups)
  pub reach : length nodes ≤ length (paths_among ps)
  pub each : (i : ℕ) → i < length nodes → IsNodeAt ps (get_or (map (path_of ps) groups) i []) (node_at nodes i)

-- a group of those that are made
pub valid_at : (ps : List (List Item)) (nodes : List Node) (groups : List Group) → IsBuilt ps nodes groups → (g : Group) (i : ℕ) → i < length groups → g ≡ get_or groups i g → IsGroup ps g
valid_at ps nodes groups built g i h e = built.valid g (subst (λ d. IsIn d groups) (sym e) (get_in g groups i h))

-- the group at a place, whatever is used for those beyond
pub group_at : (groups : List Group) (g : Group) (i k : ℕ) → i ≡ k → k < length groups → g ≡ get_or groups i g → g ≡ get_or groups k no_group
group_at groups g i k same h e = e ∙ ap (λ j. get_or groups j g) same ∙ get_or_default groups k g no_group h

module _ (ps : List (List Item)) where
  abbrev all_paths : List (List Item)
  all_paths = paths_among ps

  abbrev below : List (List Item) → List (List Item)
  below l = flat_map (children_in all_paths) l

  levels : IsLevelByLevel all_paths
  levels = level_by_level all_paths (paths_tree ps)

  -- the root, and after it the children of the first i paths and of the others
  all_is : (i : ℕ) → all_paths ≡ [] ∷ (below (take i all_paths) ++ below (drop i all_paths))
  all_is i =
      levels.first
      ∙ ap (λ l. [] ∷ l) (sym levels.children ∙ ap below (sym (take-append-drop i all_paths)) ∙ flat_map-append (children_in all_paths) (take i all_paths) (drop i all_paths))

  -- what begins as the paths do, and continues with children of its front, is no longer than they are
  pub no_longer : (k : ℕ) (made : List (List Item)) → take k all_paths ≡ take k made → made ≡ [] ∷ below (take k made) → length made ≤ length all_paths
  no_longer k made prefix is =
      let all : length all_paths ≡ suc (length (below (take k made) ++ below (drop k all_paths))) = ap length (all_is k) ∙ ap (λ l. suc (length (below l ++ below (drop k all_paths)))) prefix in
      let both : length (below (take k made) ++ below (drop k all_paths)) ≡ length (below (take k made)) + length (below (drop k all_paths)) = length-append (below (take k made)) (below (drop k all_paths)) in
      let own : length made ≡ suc (length (below (take k made))) = ap length is in
      omega (arith, all, both, own)

  -- one path more agrees
  prefix_more : (k : ℕ) (made : List (List Item)) → take k all_paths ≡ take k made → made ≡ [] ∷ below (take k made) → k < length made → take (suc k) all_paths ≡ take (suc k) made
  prefix_more k made prefix is more =
      let own : length made ≡ suc (length (below (take k made))) = ap length is in
      let enough : k ≤ length (below (take k made)) = omega (arith, own) in
      ap (take (suc k)) (all_is k ∙ ap (λ l. [] ∷ (below l ++ below (drop k all_paths))) prefix)
      ∙ ap (λ l. [] ∷ l) (take-append-le k (below (take k made)) (below (drop k all_paths)) enough)
      ∙ sym (ap (take (suc k)) is)

  -- if children are made of all, there are no other paths
  pub all_made : (made : List (List Item)) → take (length made) all_paths ≡ take (length made) made → made ≡ [] ∷ below (take (length made) made) → length made ≤ length all_paths → made ≡ all_paths
  all_made made prefix is reach =
      let k : ℕ = length made in
      let whole : take k made ≡ made = take-length made in
      let own : length made ≡ suc (length (below made)) = ap length is ∙ ap (λ l. suc (length (below l))) whole in
      let end : length all_paths ≤ k = elim (leb_tells (length all_paths) k) [
        | inl t ↦ t.1
        | inr t ↦
            let enough : k ≤ length (below (take k all_paths)) = children_enough all_paths (paths_tree ps) k t.1 in
            let same : length (below (take k all_paths)) ≡ length (below made) = ap (λ l. length (below l)) (prefix ∙ whole) in
            absurd (omega (arith, enough, same, own))
      ] in
      sym whole ∙ sym prefix ∙ take_all k all_paths end

  abbrev reported : List Group → List (List Item)
  reported groups = map (path_of ps) groups

  -- one group more is cut, and its node is made
  module _ (nodes : List Node) (groups groups2 : List Group) (built : IsBuilt ps nodes groups) (inside : length nodes < length groups) (group : Group)
      (is : group ≡ get_or groups (length nodes) no_group) (from : ℕ) (cut : IsSplit ps group from) (children : AreChildren ps group groups groups2) where
    abbrev k : ℕ
    k = length nodes

    abbrev added : List Group
    added = drop (length groups) groups2

    pub valid : IsGroup ps group
    valid = built.valid group (subst (λ g. IsIn g groups) (sym is) (get_in no_group groups k inside))

    groups_are : groups2 ≡ groups ++ added
    groups_are = sym (take-append-drop (length groups) groups2) ∙ ap (λ l. l ++ added) children.kept

    reported_more : reported groups2 ≡ reported groups ++ children_in all_paths (path_of ps group)
    reported_more = ap reported groups_are ∙ map-append (path_of ps) groups added ∙ ap (λ l. reported groups ++ l) children.paths

    length_reported : length (reported groups) ≡ length groups
    length_reported = length-map groups (path_of ps)

    own_path : get_or (reported groups) k [] ≡ path_of ps group
    own_path = get_or-map (path_of ps) groups k no_group [] inside ∙ ap (path_of ps) (sym is)

    take_reported : (i : ℕ) → i ≤ length groups → take i (reported groups2) ≡ take i (reported groups)
    take_reported i h = ap (take i) reported_more ∙ take-append-le i (reported groups) (children_in all_paths (path_of ps group)) (omega (arith, length_reported))

    next_prefix : take (suc k) (reported groups) ≡ take k (reported groups) ++ path_of ps group ∷ []
    next_prefix = rw (← add-one k) (take_more (reported groups) k [] (omega (arith, length_reported)) ∙ ap (λ p. take k (reported groups) ++ p ∷ []) own_path)

    one_below : below (take k (reported groups) ++ path_of ps group ∷ []) ≡ below (take k (reported groups)) ++ children_in all_paths (path_of ps group)
    one_below = flat_map-append (children_in all_paths) (take k (reported groups)) (path_of ps group ∷ []) ∙ ap (λ l. below (take k (reported groups)) ++ l) (append-nil (children_in all_paths (path_of ps group)))

    pub paths_next : reported groups2 ≡ [] ∷ below (take (suc k) (reported groups2))
    paths_next =
        reported_more ∙ ap (λ l. l ++ children_in all_paths (path_of ps group)) built.paths
        ∙ ap (λ l. [] ∷ l) (sym one_below ∙ ap below (sym next_prefix) ∙ ap below (sym (take_reported (suc k) (omega arith))))

    pub prefix_next : take (suc k) all_paths ≡ take (suc k) (reported groups2)
    prefix_next = prefix_more k (reported groups) built.prefix built.paths (omega (arith, length_reported)) ∙ sym (take_reported (suc k) (omega arith))

    -- there are no more groups than paths
    pub not_more : length groups2 ≤ length all_paths
    not_more = let len : length (reported groups2) ≡ length groups2 = length-map groups2 (path_of ps) in omega (arith, len, no_longer (suc k) (reported groups2) prefix_next paths_next)

    count_is : length groups2 ≡ length groups + length (children_in all_paths (path_of ps group))
    count_is =
        let len : length added ≡ length (children_in all_paths (path_of ps group)) = sym (length-map added (path_of ps)) ∙ ap length children.paths in
        let cut_len : length added ≡ length groups2 - length groups = length-drop (length groups) groups2 in
        omega (arith, len, cut_len, children.longer)

    module _ (node : Node) (first : node.first ≡ length groups) (count : node.count ≡ length groups2 - length groups) (first_value : node.first_value ≡ group.start)
        (values : node.values ≡ from - group.start) (root : group.depth ≡ 0 → node.label ≡ One) (label : 0 < group.depth → node.label ≡ label_at ps (group.depth - 1) group.start) where
      abbrev path_here : List Item
      path_here = path_of ps group

      own_values : (x : ℕ) → group.start ≤ x → x < from → pattern_at ps x ≡ path_here
      own_values x h l =
          let len : length (pattern_at ps x) ≡ group.depth = cut.own x h l in
          sym (take_all group.depth (pattern_at ps x) (omega (arith, len))) ∙ valid.inside x h (omega (arith, cut.end))

      has_values : (x : ℕ) → x < length ps → pattern_at ps x ≡ path_here → (group.start ≤ x) × (x < from)
      has_values x h e =
          let len : length (pattern_at ps x) ≡ group.depth = ap length e ∙ valid.depth in
          let here : (group.start ≤ x) × (x < group.end) = valid.outside x h (take_all group.depth (pattern_at ps x) (omega (arith, len)) ∙ e) in
          (here.0, elim (leb_tells from x) [ inl t ↦ absurd (omega (arith, cut.longer x t.1 here.1, len)) | inr t ↦ t.1 ])

      node_here : IsNodeAt ps path_here node
      node_here = record {
        count = omega (arith, count, count_is);
        label = λ some.
            let e : length path_here - 1 ≡ group.depth - 1 = omega (arith, valid.depth) in
            label (omega (arith, valid.depth)) ∙ sym (ap (λ i. get_or path_here i One) e ∙ get_or-take group.depth (pattern_at ps group.start) (group.depth - 1) One (omega (arith, valid.depth)));
        within = omega (arith, first_value, values, cut.start, cut.end, valid.within);
        own = λ x h l. own_values x (omega (arith, first_value)) (omega (arith, first_value, values, cut.start));
        has = λ x h e. let w = has_values x h e in (omega (arith, first_value, w.0), omega (arith, first_value, values, w.1));
      }

      nodes_len : length (nodes ++ node ∷ []) ≡ suc k
      nodes_len = length-append nodes (node ∷ []) ∙ add-one k

      node_old : (i : ℕ) → i < k → node_at (nodes ++ node ∷ []) i ≡ node_at nodes i
      node_old i h = get_or-append nodes (node ∷ []) nowhere i h

      path_old : (i : ℕ) → i < length groups → get_or (reported groups2) i [] ≡ get_or (reported groups) i []
      path_old i h = ap (λ l. get_or l i []) reported_more ∙ get_or-append (reported groups) (children_in all_paths path_here) [] i (omega (arith, length_reported))

      sum_more : sum_by (λ (n : Node). n.count) (nodes ++ node ∷ []) ≡ sum_by (λ (n : Node). n.count) nodes + node.count
      sum_more = sum_by-append (λ (n : Node). n.count) nodes (node ∷ []) ∙ ap (λ n. sum_by (λ (m : Node). m.count) nodes + n) (zero-add node.count)

      root_label : k ≡ 0 → node.label ≡ One
      root_label none =
          let first_path : get_or (reported groups) k [] ≡ [] = ap (λ i. get_or (reported groups) i []) none ∙ ap (λ l. get_or l 0 []) built.paths in
          let empty : length path_here ≡ 0 = ap length (sym own_path ∙ first_path) in
          root (sym valid.depth ∙ empty)

      pub built_more : IsBuilt ps (nodes ++ node ∷ []) groups2
      built_more = record {
        numbered = subst (IsNumbered (nodes ++ node ∷ [])) (add-one k ∙ sym nodes_len) (numbered_more nodes k node built.numbered (first ∙ built.sum) (omega (arith, first, inside)) root_label);
        ahead = omega (arith, nodes_len, inside, children.longer);
        sum = omega (arith, count, children.longer, built.sum, sum_more);
        valid = λ c i. ⊎_elim (λ old. built.valid c old) (λ new. children.groups c new) (in_append c groups added (subst (IsIn c) groups_are i));
        paths = rw nodes_len paths_next;
        prefix = rw nodes_len prefix_next;
        reach = omega (arith, nodes_len, inside, children.longer, not_more);
        each = λ i h. elim (leb_tells k i) [
          | inl t ↦
              let e : i ≡ k = omega (arith, t.1, nodes_len) in
              let here : get_or (reported groups2) i [] ≡ path_here = path_old i (omega (arith, e, inside)) ∙ ap (λ j. get_or (reported groups) j []) e ∙ own_path in
              let own : node_at (nodes ++ node ∷ []) i ≡ node = ap (node_at (nodes ++ node ∷ [])) e ∙ get_or-append_seam nodes node [] nowhere in
              subst (λ p. IsNodeAt ps p (node_at (nodes ++ node ∷ []) i)) (sym here) (subst (IsNodeAt ps path_here) (sym own) node_here)
          | inr t ↦
              subst (λ p. IsNodeAt ps p (node_at (nodes ++ node ∷ []) i)) (sym (path_old i (omega (arith, t.1, inside))))
              (subst (IsNodeAt ps (get_or (reported groups) i [])) (sym (node_old i t.1)) (built.each i t.1))
        ];
      }

  -- the first group is that of the root
  pub root_built : (group : Group) → group.start ≡ 0 → group.end ≡ length ps → group.depth ≡ 0 → IsBuilt ps [] (group ∷ [])
  root_built group start end depth =
      let empty : path_of ps group ≡ [] = ap (λ n. take n (pattern_at ps group.start)) depth in
      let own : IsGroup ps group = record {
        ordered = omega (arith, start);
        within = omega (arith, end);
        depth = ap length empty ∙ sym depth;
        inside = λ x h k. ap (λ n. take n (pattern_at ps x)) depth ∙ sym empty;
        outside = λ x h e. (omega (arith, start), omega (arith, end));
      } in
      record {
        numbered = record { len = refl; first = λ i h. absurd (omega arith); later = λ i h. absurd (omega arith); root = λ h. absurd (omega arith) };
        ahead = omega arith;
        sum = refl;
        valid = λ c i. ⊎_elim (λ e. subst (IsGroup ps) (sym e) own) (λ none. absurd none) i;
        paths = ap (λ p. p ∷ []) empty;
        prefix = refl;
        reach = omega arith;
        each = λ i h. absurd (omega arith);
      }

  -- all groups are cut
  module _ (nodes : List Node) (groups : List Group) (built : IsBuilt ps nodes groups) (done : length groups ≤ length nodes) where
    len : length nodes ≡ length (reported groups)
    len = let e : length (reported groups) ≡ length groups = length-map groups (path_of ps) in omega (arith, e, done, built.ahead)

    reported_is : reported groups ≡ all_paths
    reported_is = all_made (reported groups) (subst (λ n. take n all_paths ≡ take n (reported groups)) len built.prefix) (subst (λ n. reported groups ≡ [] ∷ below (take n (reported groups))) len built.paths)
        (omega (arith, len, built.reach))

    pub counted : length nodes ≡ length all_paths
    counted = len ∙ ap length reported_is

    shape : Shape nodes
    shape = shape_from nodes (length nodes) built.numbered (omega (arith, built.sum, done, built.ahead))

    pub node_is : (i : ℕ) → i < length nodes → IsNodeAt ps (get_or all_paths i []) (node_at nodes i)
    node_is i h = subst (λ l. IsNodeAt ps (get_or l i []) (node_at nodes i)) reported_is (built.each i h)

    -- how many children the first paths have
    children_before : (p : ℕ) → p ≤ length nodes → length (below (take p all_paths)) ≡ sum_by (λ (n : Node). n.count) (take p nodes)
    children_before zero h = refl
    children_before (suc p) h =
        let inside : p < length nodes = omega arith in
        let more : take (suc p) all_paths ≡ take p all_paths ++ get_or all_paths p [] ∷ [] = rw (← add-one p) (take_more all_paths p [] (omega (arith, counted, inside))) in
        let left : below (take (suc p) all_paths) ≡ below (take p all_paths) ++ (children_in all_paths (get_or all_paths p []) ++ []) =
        ap below more ∙ flat_map-append (children_in all_paths) (take p all_paths) (get_or all_paths p [] ∷ []) in
        let long : length (below (take (suc p) all_paths)) ≡ length (below (take p all_paths)) + length (children_in all_paths (get_or all_paths p []) ++ []) =
        ap length left ∙ length-append (below (take p all_paths)) (children_in all_paths (get_or all_paths p []) ++ []) in
        let last : length (children_in all_paths (get_or all_paths p []) ++ []) ≡ (node_at nodes p).count = ap length (append-nil (children_in all_paths (get_or all_paths p []))) ∙ sym (node_is p inside).count in
        let right : sum_by (λ (n : Node). n.count) (take (suc p) nodes) ≡ sum_by (λ (n : Node). n.count) (take p nodes) + (node_at nodes p).count =
        rw (← add-one p) (sum_by_more (λ (n : Node). n.count) nodes p nowhere inside) in
        omega (arith, long, last, right, children_before p (omega arith))

    -- a child's path is its parent's and the child's label
    child_path : (c p j : ℕ) → c < length nodes → IsChild nodes c p j → get_or all_paths c [] ≡ get_or all_paths p [] ++ (node_at nodes c).label ∷ []
    child_path c p j h child =
        let parent : List Item = get_or all_paths p [] in
        let z : List Item = get_or all_paths c [] in
        let within : j < length (children_in all_paths parent) = subst (λ n. j < n) (node_is p child.parent).count child.inside in
        let before : length (below (take p all_paths)) ≡ sum_by (λ (n : Node). n.count) (take p nodes) = children_before p (omega (arith, child.parent)) in
        let place : c ≡ suc (length (below (take p all_paths)) + j) = omega (arith, child.place, shape.first p child.parent, before) in
        let found : z ≡ get_or (children_in all_paths parent) j [] =
        ap (λ i. get_or all_paths i []) place ∙ ap (λ l. get_or l (suc (length (below (take p all_paths)) + j)) []) (levels.first ∙ ap (λ l. [] ∷ l) (sym levels.children))
        ∙ get_or-flat_map (children_in all_paths) all_paths p j [] [] (omega (arith, child.parent, counted)) within in
        let among : IsIn z (children_in all_paths parent) = subst (λ l. IsIn l (children_in all_paths parent)) (sym found) (get_in [] (children_in all_paths parent) j within) in
        let child_is : IsChildOf parent z = child_of parent z (in_filter (is_child parent) z all_paths among).1 in
        let own : (node_at nodes c).label ≡ get_or z (length z - 1) One = (node_is c h).label (omega (arith, child_is.longer)) in
        let last : length z - 1 ≡ length parent = omega (arith, child_is.longer) in
        sym (take_all (length parent + 1) z (omega (arith, child_is.longer))) ∙ take_more z (length parent) One (omega (arith, child_is.longer))
        ∙ ap (λ l. l ++ get_or z (length parent) One ∷ []) child_is.begins
        ∙ ap (λ x. parent ++ x ∷ []) (sym (own ∙ ap (λ i. get_or z i One) last))

    pub all_built : AreNodes ps nodes
    all_built = record {
      shape = shape;
      count = counted;
      paths = path_is nodes shape (λ i. get_or all_paths i []) (ap (λ l. get_or l 0 []) levels.first) (λ c p j h child. child_path c p j h child);
      each = node_is;
    }
