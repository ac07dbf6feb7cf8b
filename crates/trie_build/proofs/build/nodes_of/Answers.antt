use Rattle.std.proofs.Common.{◌≡◌, ◌-◌, ◌<◌, ◌≤◌, ℕ, List, length, sym, subst, arith, refl}
use Rattle.trie_nodes.specs.declared.node.Node.{Node}
use Rattle.trie_build.specs.Paths.{paths_among}
use Rattle.trie_build.specs.Groups.{IsGroup}
use Rattle.trie_build.specs.Rows.{patterns}
use Rattle.trie_build.specs.declared.groups.Group.{Group}
use Rattle.trie_build.proofs.Building.{IsBuilt, all_built, built_more, counted, group_at, not_more, valid_at}
use Rattle.trie_build.proofs.build.nodes_of.Goals as goal

pub longer_from-from-requires-clause-group : goal.longer_from-from-requires-clause-group
longer_from-from-requires-clause-group c =
    valid_at (patterns c.args.sorted.rows.now) c.loop-groups.nodes.items c.loop-groups.groups.items c.loop-groups.invariant.built c.index-group.result.now c.len-in-loop-groups-2.result (omega arith) c.index-group.ensures

pub split-requires-clause-group : goal.split-requires-clause-group
split-requires-clause-group c =
    valid_at (patterns c.args.sorted.rows.now) c.loop-groups.nodes.items c.loop-groups.groups.items c.loop-groups.invariant.built c.index-group.result.now c.len-in-loop-groups-2.result (omega arith) c.index-group.ensures

pub last_label-requires-clause-group : goal.last_label-requires-clause-group
last_label-requires-clause-group c =
    valid_at (patterns c.args.sorted.rows.now) c.loop-groups.nodes.items c.loop-groups.groups.items c.loop-groups.invariant.built c.index-group.result.now c.len-in-loop-groups-2.result (omega arith) c.index-group.ensures

pub overflow_cast-from : goal.overflow_cast-from
overflow_cast-from c =
    let valid : IsGroup (patterns c.args.sorted.rows.now) c.index-group.result.now =
    valid_at (patterns c.args.sorted.rows.now) c.loop-groups.nodes.items c.loop-groups.groups.items c.loop-groups.invariant.built c.index-group.result.now c.len-in-loop-groups-2.result (omega arith) c.index-group.ensures in
    omega (arith, c.longer_from-from.ensures.split.end, valid.within, c.requires.few)

pub returns-then-len-gt-MAX_NODES-clause-fits : goal.returns-then-len-gt-MAX_NODES-clause-fits
returns-then-len-gt-MAX_NODES-clause-fits c =
    let nodes : List Node = c.loop-groups.nodes.items in
    let groups : List Group = c.loop-groups.groups.items in
    let group : Group = c.index-group.result.now in
    let k : c.len-in-loop-groups-2.result ≡ length nodes = omega arith in
    let inside : length nodes < length groups = omega arith in
    let few : length c.split.new.groups.items ≤ length (paths_among (patterns c.args.sorted.rows.now)) =
    not_more (patterns c.args.sorted.rows.now) nodes groups c.split.new.groups.items c.loop-groups.invariant.built inside group (group_at groups group c.len-in-loop-groups-2.result (length nodes) k inside c.index-group.ensures)
    c.longer_from-from.result c.longer_from-from.ensures.split c.in_ok-split.ensures in
    λ _. omega (arith, few)

pub loop-groups-preserved : goal.loop-groups-preserved
loop-groups-preserved c =
    let nodes : List Node = c.loop-groups.nodes.items in
    let groups : List Group = c.loop-groups.groups.items in
    let group : Group = c.index-group.result.now in
    let from : ℕ = c.longer_from-from.result in
    let node : Node = record {
      label = c.last_label.result;
      first = c.len-first.result;
      count = c.len-in-loop-groups-4.result - c.len-first.result;
      first_value = group.start;
      values = from - group.start;
    } in
    let k : c.len-in-loop-groups-2.result ≡ length nodes = omega arith in
    let inside : length nodes < length groups = omega arith in
    let first : node.first ≡ length groups = omega arith in
    let count : node.count ≡ length c.split.new.groups.items - length groups = omega arith in
    record {
      built = subst (λ l. IsBuilt (patterns c.args.sorted.rows.now) l c.split.new.groups.items) (sym c.in_ok-push-2.ensures.items)
          (built_more (patterns c.args.sorted.rows.now) nodes groups c.split.new.groups.items c.loop-groups.invariant.built inside group
          (group_at groups group c.len-in-loop-groups-2.result (length nodes) k inside c.index-group.ensures) from c.longer_from-from.ensures.split c.in_ok-split.ensures
          node first count refl refl c.last_label.ensures.root c.last_label.ensures.label);
      few = omega arith;
    }

pub returns-clause-nodes : goal.returns-clause-nodes
returns-clause-nodes c = all_built (patterns c.args.sorted.rows.now) c.loop-groups.nodes.items c.loop-groups.groups.items c.loop-groups.invariant.built (omega arith)

pub returns-clause-fits : goal.returns-clause-fits
returns-clause-fits c =
    let all : length c.loop-groups.nodes.items ≡ length (paths_among (patterns c.args.sorted.rows.now)) = counted (patterns c.args.sorted.rows.now) c.loop-groups.nodes.items c.loop-groups.groups.items c.loop-groups.invariant.built (omega arith) in
    omega (arith, all, c.loop-groups.invariant.few, c.loop-groups.invariant.built.ahead)
