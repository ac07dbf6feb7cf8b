-- Whose child a node is, by the list of a node's children, and what follows of paths.
use Rattle.std.proofs.Common.{◌≡◌, ℕ, ◌<◌, List, ◌∷◌, [], ◌++◌, length, sym, inl, inr, ◌∙◌, ap, arith}
use Rattle.std.specs.List.{Contains}
use Rattle.std.proofs.Math.ListN.{get_or-eq_default}
use Rattle.std.proofs.lemmas.Bool.Decides.{leb_tells}
use Rattle.std.proofs.lemmas.List.FromFn.{length-range_with_len, get_or-range_with_len}
use Rattle.text_core.specs.declared.item.Item.{Item}
use Rattle.trie_nodes.specs.declared.node.Node.{Node}
use Rattle.trie_nodes.specs.Tree.{Shape, children, node_at, nowhere, path}
use Rattle.trie_nodes.proofs.Shaped.{IsChild, found, path_is, path_on, path_root, up_is}
use Rattle.trie_build.proofs.NodeLemmas.{children_within}
use Rattle.rule_laws.specs.TreePaths.{ArePaths, HasOneParent}

module _ (nodes : List Node) where
  -- a number that no node has has no children
  known : (p j : ℕ) → j < (node_at nodes p).count → p < length nodes
  known p j inside = elim (leb_tells (length nodes) p) [
    | inl over ↦
        let none : (node_at nodes p).count ≡ 0 = ap (λ (n : Node). n.count) (get_or-eq_default nodes nowhere over.1) in
        absurd (omega (arith, inside, none))
    | inr within ↦ within.1
  ]

  -- a node among the children of another is one of them
  child_of : (p i : ℕ) → Contains (children nodes p) i → (j : ℕ) × IsChild nodes i p j
  child_of p i w =
      let inside : w.0 < (node_at nodes p).count = rw (length-range_with_len (node_at nodes p).first (node_at nodes p).count) at w.1 in (
        w.0,
        record {
          parent = known p w.0 inside;
          inside = inside;
          place = sym w.2 ∙ get_or-range_with_len (node_at nodes p).first (node_at nodes p).count w.0 i inside;
        },
      )

  among_children : (p i j : ℕ) → IsChild nodes i p j → Contains (children nodes p) i
  among_children p i j child =
      let within : j < length (children nodes p) = rw (length-range_with_len (node_at nodes p).first (node_at nodes p).count) child.inside in
      (j, within, get_or-range_with_len (node_at nodes p).first (node_at nodes p).count j i child.inside ∙ sym child.place)

module _ (nodes : List Node) (s : Shape nodes) where
  -- a child follows its parent, and among the nodes
  following : (p i : ℕ) → Contains (children nodes p) i → p < i
  following p i w =
      let child : (j : ℕ) × IsChild nodes i p j = child_of nodes p i w in
      omega (arith, s.later p child.1.parent, child.1.place)

  within : (p i : ℕ) → Contains (children nodes p) i → i < length nodes
  within p i w =
      let child : (j : ℕ) × IsChild nodes i p j = child_of nodes p i w in
      omega (arith, children_within nodes p s child.1.parent, child.1.place, child.1.inside)

  grows : (p i : ℕ) → Contains (children nodes p) i → path nodes i ≡ path nodes p ++ (node_at nodes i).label ∷ []
  grows p i w =
      let child : (j : ℕ) × IsChild nodes i p j = child_of nodes p i w in
      let below : p < i = following p i w in
      path_on nodes s i (omega (arith, below)) (within p i w)
      ∙ ap (λ k. path nodes k ++ (node_at nodes i).label ∷ []) (up_is nodes s i p child.0 child.1)

  pub are_paths : ArePaths nodes (path nodes)
  are_paths = record { root = path_root nodes; child = grows }

  pub no_others : (other : ℕ → List Item) → ArePaths nodes other → (i : ℕ) → i < length nodes → other i ≡ path nodes i
  no_others other are i h = sym (path_is nodes s other are.root (λ c p j k child. are.child p c (among_children nodes p c j child)) i h)

  pub one_parent : (i : ℕ) → 0 < i → i < length nodes → HasOneParent nodes i
  one_parent i some h =
      let w : (p : ℕ) × ((j : ℕ) × IsChild nodes i p j) = found nodes s i some h in
      let here : Contains (children nodes w.0) i = among_children nodes w.0 i w.1.0 w.1.1 in
      record {
        parent = w.0;
        before = following w.0 i here;
        child = here;
        only = λ other among.
            let child : (j : ℕ) × IsChild nodes i other j = child_of nodes other i among in
            sym (up_is nodes s i other child.0 child.1) ∙ up_is nodes s i w.0 w.1.0 w.1.1;
      }

  pub no_parent : (i : ℕ) → Contains (children nodes i) 0 → ⊥
  no_parent i w = let below : i < 0 = following i 0 w in omega (arith, below)
