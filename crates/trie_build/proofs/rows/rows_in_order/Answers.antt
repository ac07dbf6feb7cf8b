use Rattle.std.proofs.Common.{refl}
use Rattle.trie_build.proofs.Sorting.{numbers_more, rows_more}
use Rattle.trie_build.proofs.rows.rows_in_order.Goals as goal

pub loop-i-preserved : goal.loop-i-preserved
loop-i-preserved c = record {
  numbers = numbers_more c.args.entries.now c.loop-i.rows.items c.push.new.self.items c.loop-i.i c.index-entries-i.result _ c.in_ok-push.ensures.items refl c.loop-i.invariant.numbers;
  rows = rows_more c.args.entries.now c.loop-i.rows.items c.push.new.self.items c.loop-i.i c.index-entries-i.result _ c.in_ok-push.ensures.items refl c.loop-i-test.true c.index-entries-i.is refl c.prefix_of.ensures c.loop-i.invariant.rows;
}
