use Rattle.std.proofs.Common.{arith, refl}
use Rattle.text_tables.proofs.Tallying.{counts_more, tally_item, tally_start}
use Rattle.text_tables.proofs.tallies.tally_of.Goals as goal

pub loop-text-init : goal.loop-text-init
loop-text-init c = tally_start c.new-tally.result c.new-tally.ensures

pub loop-text-preserved : goal.loop-text-preserved
loop-text-preserved c =
    tally_item (λ l. l.0.now) c.loop-text.tally c.count_one.new.tally c.args.lines.now c.loop-text.text-index _ _ c.loop-text.invariant c.loop-text-test.true refl c.in_ok-count_one.ensures.counts

pub count_one-requires : goal.count_one-requires
count_one-requires c =
    counts_more (λ l. l.0.now) c.loop-text.tally c.args.lines.now c.loop-text.text-index _ c.loop-text.invariant c.loop-text-test.true (omega arith)
