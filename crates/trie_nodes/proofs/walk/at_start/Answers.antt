use Rattle.std.proofs.Common.{◌≡◌, ℕ, ◌+◌, ◌-◌, ◌<◌, ◌≤◌, List, [], ◌∷◌, ◌++◌, length, take, drop, get_or, sym, subst, ap, ◌∙◌, arith, length-append}
use Rattle.std.proofs.Math.ListN.{get_or-append}
use Rattle.std.proofs.lemmas.List.{get_or_default}
use Rattle.trie_nodes.specs.declared.node.Node.{Node}
use Rattle.trie_nodes.proofs.Stepping.{Started, started, start_on, all_started, is_node, first_nearer, stars_under}
use Rattle.trie_nodes.proofs.walk.at_start.Goals as goal

pub loop-at-init : goal.loop-at-init
loop-at-init g c =
    let nodes : List Node = (g.N.Nodes.nodes c.args.nodes.now) in
    let root : c.root-root.result ≡ 0 = c.root-root.ensures.value in
    let e : c.push_stars.new.list.items ≡ 0 ∷ stars_under nodes 0 =
    c.in_ok-push_stars.ensures ∙ ap (λ (l : List ℕ). l ++ stars_under nodes c.root-root.result) (c.in_ok-push.ensures.items ∙ ap (λ (l : List ℕ). l ++ c.root-root.result ∷ []) c.new-list.ensures.items)
    ∙ ap (λ k. k ∷ stars_under nodes k) root in
    record {
      within = rw e (omega arith);
      met = subst (λ (l : List ℕ). Started nodes (take 1 l) (drop 1 l) (get_or l 0 0 + 1)) (sym e) (started nodes c.root-root.ensures.tree);
    }

-- one step, over plain lists
module _ (nodes : List Node) (list list2 : List ℕ) (at node : ℕ) (is : node ≡ get_or list at node) (within : at < length list)
    (e : list2 ≡ list ++ stars_under nodes node) where
  own : get_or list at 0 ≡ node
  own = get_or_default list at 0 node within ∙ sym is

  pub later : get_or list2 (at + 1 - 1) 0 ≡ get_or list at 0
  later =
      let back : at + 1 - 1 ≡ at = omega arith in
      ap (λ k. get_or list2 k 0) back ∙ ap (λ (l : List ℕ). get_or l at 0) e ∙ get_or-append list (stars_under nodes node) 0 at within

  pub longer : at + 1 ≤ length list2
  longer = let f : length list2 ≡ length list + length (stars_under nodes node) = ap length e ∙ length-append list (stars_under nodes node) in omega arith

  pub added : list2 ≡ list ++ stars_under nodes (get_or list at 0)
  added = e ∙ ap (λ k. list ++ stars_under nodes k) (sym own)

pub push_stars-requires-in-loop-at-clause-within : goal.push_stars-requires-in-loop-at-clause-within
push_stars-requires-in-loop-at-clause-within g c =
    let there : get_or c.loop-at.list.items c.loop-at.at 0 < length (g.N.Nodes.nodes c.args.nodes.now) = is_node (g.N.Nodes.nodes c.args.nodes.now) c.root-root.ensures.tree c.loop-at.list.items c.loop-at.at (get_or c.loop-at.list.items (c.loop-at.at - 1) 0 + 1) c.loop-at.invariant.met (omega arith) in
    rw (c.index-node.ensures, get_or_default c.loop-at.list.items c.loop-at.at c.index-node.result.now 0 (omega arith)) there

pub loop-at-smaller : goal.loop-at-smaller
loop-at-smaller g c =
    let inside : c.loop-at.at < length c.loop-at.list.items = omega arith in
    let there : get_or c.loop-at.list.items c.loop-at.at 0 < length (g.N.Nodes.nodes c.args.nodes.now) = is_node (g.N.Nodes.nodes c.args.nodes.now) c.root-root.ensures.tree c.loop-at.list.items c.loop-at.at (get_or c.loop-at.list.items (c.loop-at.at - 1) 0 + 1) c.loop-at.invariant.met inside in
    let far : get_or c.loop-at.list.items (c.loop-at.at - 1) 0 + 1 ≤ get_or c.loop-at.list.items c.loop-at.at 0 = first_nearer (g.N.Nodes.nodes c.args.nodes.now) c.root-root.ensures.tree c.loop-at.list.items c.loop-at.at (get_or c.loop-at.list.items (c.loop-at.at - 1) 0 + 1) c.loop-at.invariant.met inside in
    let next : get_or c.push_stars-in-loop-at.new.list.items (c.loop-at.at + 1 - 1) 0 ≡ get_or c.loop-at.list.items c.loop-at.at 0 = later (g.N.Nodes.nodes c.args.nodes.now) c.loop-at.list.items c.push_stars-in-loop-at.new.list.items c.loop-at.at c.index-node.result.now c.index-node.ensures inside c.in_ok-push_stars-2.ensures in
    omega arith

pub loop-at-preserved : goal.loop-at-preserved
loop-at-preserved g c =
    let nodes : List Node = (g.N.Nodes.nodes c.args.nodes.now) in
    let list : List ℕ = c.loop-at.list.items in
    let list2 : List ℕ = c.push_stars-in-loop-at.new.list.items in
    let at : ℕ = c.loop-at.at in
    let inside : at < length list = omega arith in
    let e : list2 ≡ list ++ stars_under nodes (get_or list at 0) = added nodes list list2 at c.index-node.result.now c.index-node.ensures inside c.in_ok-push_stars-2.ensures in
    let next : get_or list2 (at + 1 - 1) 0 ≡ get_or list at 0 = later nodes list list2 at c.index-node.result.now c.index-node.ensures inside c.in_ok-push_stars-2.ensures in
    record {
      within = longer nodes list list2 at c.index-node.result.now c.index-node.ensures inside c.in_ok-push_stars-2.ensures;
      met = subst (λ k. Started nodes (take (at + 1) list2) (drop (at + 1) list2) (k + 1)) (sym next)
          (start_on nodes c.root-root.ensures.tree list at (get_or list (at - 1) 0 + 1) c.loop-at.invariant.met inside list2 e);
    }

pub returns-clause-active : goal.returns-clause-active
returns-clause-active g c = all_started (g.N.Nodes.nodes c.args.nodes.now) c.root-root.ensures.tree c.loop-at.list.items c.loop-at.at (get_or c.loop-at.list.items (c.loop-at.at - 1) 0 + 1) c.loop-at.invariant.met (omega arith)
