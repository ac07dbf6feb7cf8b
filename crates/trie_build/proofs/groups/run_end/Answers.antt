use Rattle.std.proofs.Common.{◌≡◌, ℕ, arith, subst}
use Rattle.std.specs.declared.cmp.Ordering.TheVariants.{Equal}
use Rattle.trie_build.specs.Order.{label_cmp}
use Rattle.trie_build.proofs.Orders.{labels_order}
use Rattle.trie_build.specs.Groups.{label_at}
use Rattle.trie_build.specs.Rows.{patterns}
use Rattle.trie_build.proofs.Sharing.{run_more, run_over}
use Rattle.trie_build.proofs.groups.run_end.Goals as goal

pub loop-at-init : goal.loop-at-init
loop-at-init c =
    let label : ℕ → _ = label_at (patterns c.args.sorted.rows.now) c.args.depth in
    record {
      started = omega arith;
      same = λ x h k. let e : c.args.start ≡ x = omega arith in subst (λ z. label_cmp (label c.args.start) (label z) ≡ Equal) e (labels_order.itself (label c.args.start));
    }

pub returns-then-sorted-at : goal.returns-then-sorted-at
returns-then-sorted-at c = record {
  run = run_over (patterns c.args.sorted.rows.now) c.args.sorted.shared.now c.requires.shared c.args.start c.args.end c.args.depth c.requires.within c.requires.longer c.requires.alike
      c.loop-at.at c.loop-at.invariant.started c.loop-at-test.true c.loop-at.invariant.same c.if-sorted-at.true;
}

pub loop-at-preserved : goal.loop-at-preserved
loop-at-preserved c = record {
  started = omega arith;
  same = run_more (patterns c.args.sorted.rows.now) c.args.sorted.shared.now c.requires.shared c.args.start c.args.end c.args.depth c.requires.within c.requires.longer c.requires.alike
      c.loop-at.at c.loop-at.invariant.started c.loop-at-test.true c.loop-at.invariant.same (omega (arith, c.if-sorted-at.false));
}
