-- What the shape of a flat trie says: whose child a node is, and how its path goes on.
use Rattle.std.proofs.Common.{◌≡◌, ℕ, suc, zero, ◌+◌, ◌-◌, ◌<◌, ◌≤◌, List, ◌∷◌, [], ◌++◌, length, take, drop, map, get_or, refl, sym, ◌∙◌, ap, arith, add-one, zero-add}
use Rattle.std.specs.List.{flat_map, zip, sum_by}
use Rattle.std.proofs.Math.Seq.{take-length}
use Rattle.std.proofs.lemmas.List.{length-map, length-drop, get_or-map}
use Rattle.std.proofs.lemmas.List.FromFn.{length-range_with_len, get_or-range_with_len}
use Rattle.std.proofs.lemmas.List.Concat.{length-flat_map, get_or-flat_map}
use Rattle.std.proofs.lemmas.List.Sums.{sum_by_more}
use Rattle.std.proofs.lemmas.Slice.Zip.{get_or-zip, length-zip}
use Rattle.std.proofs.lemmas.Grind.{get_or_after_one}
use Rattle.text_core.specs.declared.item.Item.{Item}
use Rattle.text_core.specs.declared.item.Item.TheVariants.{Byte}
use Rattle.trie_nodes.specs.Paths.{Link}
use Rattle.trie_nodes.specs.declared.node.Node.{Node}
use Rattle.trie_nodes.specs.Paths.{paths}
use Rattle.trie_nodes.specs.Tree.{Shape, nowhere, node_at, children, numbers, parents, links, link, path}
use Rattle.trie_nodes.proofs.Growing.{path_step, path-kept}
use Rattle.trie_nodes.proofs.Pieces.{Piece, piece_at}

abbrev pub before : List Node → ℕ → ℕ
before nodes p = sum_by (λ n. n.count) (take p nodes)

-- a node's number, for each of its children
abbrev pub edges : List Node → ℕ → List ℕ
edges nodes i = map (λ _. i) (children nodes i)

length-edges : (nodes : List Node) (i : ℕ) → length (edges nodes i) ≡ (node_at nodes i).count
length-edges nodes i = simp (length-map, length-range_with_len)

number : (nodes : List Node) (p d : ℕ) → p < length nodes → get_or (numbers nodes) p d ≡ p
number nodes p d h = get_or-range_with_len 0 (length nodes) p d h ∙ zero-add p

sums : (nodes : List Node) (p : ℕ) → p ≤ length nodes → sum_by (λ i. length (edges nodes i)) (take p (numbers nodes)) ≡ before nodes p
sums nodes zero h = refl
sums nodes (suc p) h =
    let within : p < length nodes = omega arith in
    let inside : p < length (numbers nodes) = rw (length-range_with_len 0 (length nodes)) within in
    let left : sum_by (λ i. length (edges nodes i)) (take (p + 1) (numbers nodes)) ≡ sum_by (λ i. length (edges nodes i)) (take p (numbers nodes)) + length (edges nodes (get_or (numbers nodes) p 0)) =
    sum_by_more (λ i. length (edges nodes i)) (numbers nodes) p 0 inside in
    let right : before nodes (p + 1) ≡ before nodes p + (node_at nodes p).count = sum_by_more (λ (n : Node). n.count) nodes p nowhere within in
    let same : length (edges nodes (get_or (numbers nodes) p 0)) ≡ (node_at nodes p).count = ap (λ i. length (edges nodes i)) (number nodes p 0 within) ∙ length-edges nodes p in
    let so_far : sum_by (λ i. length (edges nodes i)) (take p (numbers nodes)) ≡ before nodes p = sums nodes p (omega arith) in
    let whole : sum_by (λ i. length (edges nodes i)) (take (p + 1) (numbers nodes)) ≡ before nodes (p + 1) = left ∙ ap (λ k. k + length (edges nodes (get_or (numbers nodes) p 0))) so_far ∙ ap (λ k. before nodes p + k) same ∙ sym right in
    rw (← add-one p) whole

pub pieces_before : (nodes : List Node) (p : ℕ) → p ≤ length nodes → length (flat_map (edges nodes) (take p (numbers nodes))) ≡ before nodes p
pieces_before nodes p h = length-flat_map (edges nodes) (take p (numbers nodes)) ∙ sums nodes p h

length-parents : (nodes : List Node) → length (parents nodes) ≡ sum_by (λ n. n.count) nodes
length-parents nodes =
    let all : take (length nodes) (numbers nodes) ≡ numbers nodes = ap (λ k. take k (numbers nodes)) (sym (length-range_with_len 0 (length nodes))) ∙ take-length (numbers nodes) in
    ap (λ l. length (flat_map (edges nodes) l)) (sym all)
    ∙ pieces_before nodes (length nodes) (omega arith)
    ∙ ap (sum_by (λ (n : Node). n.count)) (take-length nodes)

-- the number of a node's parent
abbrev pub up : List Node → ℕ → ℕ
up nodes c = get_or (parents nodes) (c - 1) 0

-- a node is a child
pub record IsChild (nodes : List Node) (c p j : ℕ) : Type 0 where
  pub parent : p < length nodes
  pub inside : j < (node_at nodes p).count
  pub place : c ≡ (node_at nodes p).first + j

module _ (nodes : List Node) (s : Shape nodes) where
  pub up_is : (c p j : ℕ) → IsChild nodes c p j → up nodes c ≡ p
  up_is c p j h =
      let here : p < length (numbers nodes) = rw (length-range_with_len 0 (length nodes)) h.parent in
      let own : get_or (numbers nodes) p 0 ≡ p = number nodes p 0 h.parent in
      let within : j < length (edges nodes (get_or (numbers nodes) p 0)) = rw (own, length-edges nodes p) h.inside in
      let within2 : j < length (children nodes p) = rw (length-range_with_len (node_at nodes p).first (node_at nodes p).count) h.inside in
      let place : c - 1 ≡ length (flat_map (edges nodes) (take p (numbers nodes))) + j = omega (arith, h.place, s.first p h.parent, pieces_before nodes p (omega (arith, h.parent))) in
      ap (λ k. get_or (parents nodes) k 0) place
      ∙ get_or-flat_map (edges nodes) (numbers nodes) p j 0 0 here within
      ∙ ap (λ k. get_or (edges nodes k) j 0) own
      ∙ get_or-map (λ _. p) (children nodes p) j 0 0 within2

  pub some : 0 < length nodes
  some = omega (arith, s.all)

  parents_all : 1 + length (parents nodes) ≡ length nodes
  parents_all = omega (arith, length-parents nodes, s.all)

  pub found : (c : ℕ) → 0 < c → c < length nodes → (p : ℕ) × ((j : ℕ) × IsChild nodes c p j)
  found c h k =
      let w : Piece (edges nodes) (numbers nodes) 0 (c - 1) = piece_at (edges nodes) (numbers nodes) 0 (c - 1) (omega (arith, parents_all)) in
      let here : w.piece < length nodes = rw (length-range_with_len 0 (length nodes)) at w.one in
      let own : get_or (numbers nodes) w.piece 0 ≡ w.piece = number nodes w.piece 0 here in
      let inside : w.inner < (node_at nodes w.piece).count = rw (own, length-edges nodes w.piece) at w.inside in (
        w.piece,
        (
          w.inner,
          record {
            parent = here;
            inside = inside;
            place = omega (arith, w.place, s.first w.piece here, pieces_before nodes w.piece (omega arith));
          },
        ),
      )

  pub up_before : (c : ℕ) → 0 < c → c < length nodes → up nodes c < c
  up_before c h k =
      let w : (p : ℕ) × ((j : ℕ) × IsChild nodes c p j) = found c h k in
      let e : up nodes c ≡ w.0 = up_is c w.0 w.1.0 w.1.1 in
      omega (arith, e, s.later w.0 w.1.1.parent, w.1.1.place)

  link_at : (c : ℕ) → 0 < c → c < length nodes → (start : Link) → get_or (links nodes) (c - 1) start ≡ record { parent = up nodes c; label = (node_at nodes c).label }
  link_at c h k start =
      let e : 1 + (c - 1) ≡ c = omega arith in
      let first : c - 1 < length (parents nodes) = omega (arith, parents_all) in
      let second : c - 1 < length (drop 1 nodes) = rw (length-drop 1 nodes) (omega arith) in
      let both : c - 1 < length (zip (parents nodes) (drop 1 nodes)) = rw (length-zip (parents nodes) (drop 1 nodes)) (omega arith) in
      let d : (ℕ × Node) = (0, nowhere) in
      get_or-map link (zip (parents nodes) (drop 1 nodes)) (c - 1) d start both
      ∙ ap link (get_or-zip (parents nodes) (drop 1 nodes) (c - 1) d first second)
      ∙ ap (λ (n : Node). link (up nodes c, n)) (get_or_after_one nodes (c - 1) nowhere ∙ ap (node_at nodes) e)

  -- a path is that of the parent and the own label
  pub path_on : (c : ℕ) → 0 < c → c < length nodes → path nodes c ≡ path nodes (up nodes c) ++ (node_at nodes c).label ∷ []
  unfolding path
  path_on c h k =
      let start : Link = record { parent = 0; label = Byte 0 } in
      let own : Link = record { parent = up nodes c; label = (node_at nodes c).label } in
      let is : get_or (links nodes) (c - 1) start ≡ own = link_at c h k start in
      let within : c - 1 < length (links nodes) = simp (length-map, length-zip, length-drop) (omega (arith, parents_all)) in
      let following : (get_or (links nodes) (c - 1) start).parent ≤ c - 1 = rw is (omega (arith, up_before c h k)) in
      let e : (c - 1) + 1 ≡ c = omega arith in
      ap (λ i. get_or (paths (links nodes)) i []) (sym e)
      ∙ path_step (links nodes) (c - 1) start within following
      ∙ ap (λ (l : Link). get_or (paths (links nodes)) l.parent [] ++ l.label ∷ []) is

pub path_root : (nodes : List Node) → path nodes 0 ≡ []
unfolding path paths
path_root nodes = path-kept (links nodes) 0 0 (omega arith)

-- what grows as the paths do is the paths
module _ (nodes : List Node) (s : Shape nodes) (q : ℕ → List Item) (root : q 0 ≡ [])
    (on : (c p j : ℕ) → c < length nodes → IsChild nodes c p j → q c ≡ q p ++ (node_at nodes c).label ∷ []) where
  below : (n c : ℕ) → c < n → c < length nodes → path nodes c ≡ q c
  below zero c h k = absurd (omega arith)
  below (suc n) zero h k = path_root nodes ∙ sym root
  below (suc n) (suc c) h k =
      let w : (p : ℕ) × ((j : ℕ) × IsChild nodes (suc c) p j) = found nodes s (suc c) (omega arith) k in
      let e : up nodes (suc c) ≡ w.0 = up_is nodes s (suc c) w.0 w.1.0 w.1.1 in
      let following : up nodes (suc c) < suc c = up_before nodes s (suc c) (omega arith) k in
      let so_far : path nodes w.0 ≡ q w.0 = below n w.0 (omega (arith, e, following)) w.1.1.parent in
      path_on nodes s (suc c) (omega arith) k
      ∙ ap (λ i. path nodes i ++ (node_at nodes (suc c)).label ∷ []) e
      ∙ ap (λ (p : List Item). p ++ (node_at nodes (suc c)).label ∷ []) so_far
      ∙ sym (on (suc c) w.0 w.1.0 k w.1.1)

  pub path_is : (c : ℕ) → c < length nodes → path nodes c ≡ q c
  path_is c h = below (c + 1) c (omega arith) h
