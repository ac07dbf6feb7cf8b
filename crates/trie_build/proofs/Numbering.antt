-- Nodes that are numbered one after another.
use Rattle.std.proofs.Common.{◌≡◌, ℕ, ◌+◌, ◌<◌, ◌≤◌, List, ◌∷◌, [], ◌++◌, length, take, sym, inl, inr, ◌∙◌, ap, arith, length-append}
use Rattle.std.specs.List.{sum_by}
use Rattle.std.proofs.Math.ListN.{get_or-append}
use Rattle.std.proofs.Math.Seq.{get_or-append_seam, take-length}
use Rattle.std.proofs.lemmas.List.{take-append-le}
use Rattle.std.proofs.lemmas.Bool.Decides.{leb_tells}
use Rattle.text_core.specs.declared.item.Item.TheVariants.{One}
use Rattle.trie_nodes.specs.declared.node.Node.{Node}
use Rattle.trie_nodes.specs.Tree.{Shape, node_at, nowhere}

-- the first k nodes have their children one after another
pub record IsNumbered (nodes : List Node) (k : ℕ) : Type 0 where
  pub len : length nodes ≡ k
  pub first : (i : ℕ) → i < k → (node_at nodes i).first ≡ 1 + sum_by (λ n. n.count) (take i nodes)
  pub later : (i : ℕ) → i < k → i < (node_at nodes i).first
  pub root : 0 < k → (node_at nodes 0).label ≡ One

pub shape_from : (nodes : List Node) (k : ℕ) → IsNumbered nodes k → 1 + sum_by (λ n. n.count) nodes ≡ k → Shape nodes
shape_from nodes k n e = record {
  first = λ i h. n.first i (omega (arith, n.len));
  later = λ i h. n.later i (omega (arith, n.len));
  all = omega (arith, n.len, e);
  root = n.root (omega (arith, e));
}

-- one node more
module _ (nodes : List Node) (k : ℕ) (new : Node) (n : IsNumbered nodes k) (first : new.first ≡ 1 + sum_by (λ m. m.count) nodes) (later : k < new.first)
    (root : k ≡ 0 → new.label ≡ One) where
  more : List Node
  more = nodes ++ new ∷ []

  old : (i : ℕ) → i < k → node_at more i ≡ node_at nodes i
  unfolding more
  old i h = get_or-append nodes (new ∷ []) nowhere i (omega (arith, n.len))

  here : (i : ℕ) → i ≡ k → node_at more i ≡ new
  unfolding more
  here i e = let f : i ≡ length nodes = omega (arith, n.len) in ap (node_at more) f ∙ get_or-append_seam nodes new [] nowhere

  cut : (i : ℕ) → i ≤ k → take i more ≡ take i nodes
  unfolding more
  cut i h = take-append-le i nodes (new ∷ []) (omega (arith, n.len))

  whole : (i : ℕ) → i ≡ k → take i nodes ≡ nodes
  whole i e = let f : i ≡ length nodes = omega (arith, n.len) in ap (λ j. take j nodes) f ∙ take-length nodes

  pub numbered_more : IsNumbered (nodes ++ new ∷ []) (k + 1)
  unfolding more
  numbered_more = record {
    len = omega (arith, length-append nodes (new ∷ []), n.len);
    first = λ i h. elim (leb_tells k i) [
      | inl t ↦ let e : i ≡ k = omega (arith, t.1) in ap (λ (m : Node). m.first) (here i e) ∙ first ∙ ap (λ l. 1 + sum_by (λ (m : Node). m.count) l) (sym (cut i (omega arith) ∙ whole i e))
      | inr t ↦ ap (λ (m : Node). m.first) (old i t.1) ∙ n.first i t.1 ∙ ap (λ l. 1 + sum_by (λ (m : Node). m.count) l) (sym (cut i (omega (arith, t.1))))
    ];
    later = λ i h. elim (leb_tells k i) [
      | inl t ↦ let e : i ≡ k = omega (arith, t.1) in rw (here i e) (omega (arith, e))
      | inr t ↦ rw (old i t.1) (n.later i t.1)
    ];
    root = λ h. elim (leb_tells k 0) [
      | inl t ↦ let e : 0 ≡ k = omega (arith, t.1) in ap (λ (m : Node). m.label) (here 0 e) ∙ root (sym e)
      | inr t ↦ ap (λ (m : Node). m.label) (old 0 t.1) ∙ n.root t.1
    ];
  }
