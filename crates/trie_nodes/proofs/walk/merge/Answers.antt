use Rattle.std.proofs.Common.{◌≡◌, ℕ, ◌+◌, ◌-◌, ◌<◌, ◌≤◌, List, length, take, drop, sym, subst, ap, ◌∙◌, arith, length-append, min}
use Rattle.std.proofs.lemmas.List.{take_rest}
use Rattle.trie_nodes.specs.Tree.{children}
use Rattle.trie_nodes.specs.Steps.{stars}
use Rattle.trie_nodes.specs.declared.node.Node.{Node}
use Rattle.trie_nodes.proofs.Stepping.{Walked, start, all_met, nearer, walk_on, after_last, after_pushed}
use Rattle.trie_nodes.specs.Merge.{first_or, past}
use Rattle.trie_nodes.proofs.walk.merge.Goals as goal

-- the nearest node, from the current lists
least : (end len : ℕ) (xs ys held starred : List ℕ) (at node : ℕ) → end ≡ len → held ≡ starred
    → node ≡ min (first_or end xs) (min (first_or end ys) (first_or end (take (length held - at) (drop at held))))
    → node ≡ min (first_or len xs) (min (first_or len ys) (first_or len (drop at starred)))
least end len xs ys held starred at node e f h = rw (take_rest held at, e, f) at h

pub loop-taken-init : goal.loop-taken-init
loop-taken-init g c =
    let nodes : List Node = g.N.Nodes.nodes c.args.nodes.now in
    let m : List ℕ = c.args.modalias.now in
    let i : ℕ = c.args.at in
    record {
      within = omega arith;
      met = rw (c.requires.taking, c.requires.staying, c.clear.ensures.items, c.clear-2.ensures.items) (start nodes c.requires.shape m i c.requires.within);
    }

pub returns-then-node-end : goal.returns-then-node-end
returns-then-node-end g c =
    let nodes : List Node = g.N.Nodes.nodes c.args.nodes.now in
    let m : List ℕ = c.args.modalias.now in
    let xs : List ℕ = c.loop-taken.taken.now in
    let ys : List ℕ = c.loop-taken.stay.now in
    let zs : List ℕ = drop c.loop-taken.starred_at c.loop-taken.starred.items in
    let node : ℕ = c.nearest-node.result in
    let near : node ≡ min (first_or (length nodes) xs) (min (first_or (length nodes) ys) (first_or (length nodes) zs)) =
    least c.len-end.result (length nodes) xs ys c.deref.result.now c.loop-taken.starred.items c.loop-taken.starred_at node c.len-end.ensures c.deref.ensures.value c.nearest-node.ensures in
    all_met nodes c.requires.shape m c.args.at c.requires.within c.loop-taken.next.items xs ys zs (after_last c.loop-taken.next.items) node c.loop-taken.invariant.met near
    (omega (arith, c.len-end.ensures))

pub loop-taken-smaller : goal.loop-taken-smaller
loop-taken-smaller g c =
    let nodes : List Node = g.N.Nodes.nodes c.args.nodes.now in
    let m : List ℕ = c.args.modalias.now in
    let xs : List ℕ = c.loop-taken.taken.now in
    let ys : List ℕ = c.loop-taken.stay.now in
    let zs : List ℕ = drop c.loop-taken.starred_at c.loop-taken.starred.items in
    let node : ℕ = c.nearest-node.result in
    let near : node ≡ min (first_or (length nodes) xs) (min (first_or (length nodes) ys) (first_or (length nodes) zs)) =
    least c.len-end.result (length nodes) xs ys c.deref.result.now c.loop-taken.starred.items c.loop-taken.starred_at node c.len-end.ensures c.deref.ensures.value c.nearest-node.ensures in
    let inside : node < length nodes = omega (arith, c.len-end.ensures) in
    let pushed : after_last c.push.new.self.items ≡ node + 1 = after_pushed c.loop-taken.next.items c.push.new.self.items node c.in_ok-push.ensures.items in
    let less : length nodes - (node + 1) < length nodes - after_last c.loop-taken.next.items =
    nearer nodes c.requires.shape m c.args.at c.requires.within c.loop-taken.next.items xs ys zs (after_last c.loop-taken.next.items) node c.loop-taken.invariant.met near inside in
    subst (λ k. length nodes - k < length nodes - after_last c.loop-taken.next.items) (sym pushed) less

pub loop-taken-preserved : goal.loop-taken-preserved
loop-taken-preserved g c =
    let nodes : List Node = g.N.Nodes.nodes c.args.nodes.now in
    let m : List ℕ = c.args.modalias.now in
    let xs : List ℕ = c.loop-taken.taken.now in
    let ys : List ℕ = c.loop-taken.stay.now in
    let zs : List ℕ = drop c.loop-taken.starred_at c.loop-taken.starred.items in
    let node : ℕ = c.nearest-node.result in
    let near : node ≡ min (first_or (length nodes) xs) (min (first_or (length nodes) ys) (first_or (length nodes) zs)) =
    least c.len-end.result (length nodes) xs ys c.deref.result.now c.loop-taken.starred.items c.loop-taken.starred_at node c.len-end.ensures c.deref.ensures.value c.nearest-node.ensures in
    let inside : node < length nodes = omega (arith, c.len-end.ensures) in
    let pushed : after_last c.push.new.self.items ≡ node + 1 = after_pushed c.loop-taken.next.items c.push.new.self.items node c.in_ok-push.ensures.items in
    let starred : c.deref-in-loop-taken.result.now ≡ c.loop-taken.starred.items = c.deref-in-loop-taken.ensures.value in
    let grown : length c.push_stars.new.list.items ≡ length c.loop-taken.starred.items + length (stars nodes (children nodes node)) =
    ap length c.in_ok-push_stars.ensures ∙ length-append c.loop-taken.starred.items (stars nodes (children nodes node)) in
    let passed : c.passed-starred_at.result ≤ length c.loop-taken.starred.items = subst (λ (l : List ℕ). c.passed-starred_at.result ≤ length l) starred c.passed-starred_at.ensures.within in
    let following : drop c.passed-starred_at.result c.loop-taken.starred.items ≡ past node zs = rw starred at c.passed-starred_at.ensures.value in
    let on : Walked nodes m c.args.at c.push.new.self.items c.past-taken.result.now c.past-stay.result.now (drop c.passed-starred_at.result c.push_stars.new.list.items) (node + 1) =
    walk_on nodes c.requires.shape m c.args.at c.requires.within c.loop-taken.next.items c.push.new.self.items xs c.past-taken.result.now ys c.past-stay.result.now
    c.loop-taken.starred.items c.push_stars.new.list.items c.loop-taken.starred_at c.passed-starred_at.result (after_last c.loop-taken.next.items) node c.loop-taken.invariant.met near inside
    c.in_ok-push.ensures.items c.past-taken.ensures c.past-stay.ensures passed following c.in_ok-push_stars.ensures in
    record {
      within = omega arith;
      met = subst (Walked nodes m c.args.at c.push.new.self.items c.past-taken.result.now c.past-stay.result.now (drop c.passed-starred_at.result c.push_stars.new.list.items)) (sym pushed) on;
    }
