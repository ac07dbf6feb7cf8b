use Rattle.std.proofs.Common.{◌≡◌, arith, ap, length}
use Rattle.std.proofs.lemmas.List.Sums.{sum_by_more_le}
use Rattle.trie_build.specs.Shown.{own_len}
use Rattle.trie_build.proofs.size.after_entries.Goals as goal

pub returns-then-len-left : goal.returns-then-len-left
returns-then-len-left c =
    let key : length c.as_slice.result.now ≡ length c.entry-item.result.key = ap length c.as_slice.ensures in
    let value : length c.as_slice-in-loop-entry.result.now ≡ length c.entry-item.result.value = ap length c.as_slice-in-loop-entry.ensures in
    omega (arith, key, value, ap own_len c.entry-item.is, sum_by_more_le own_len c.args.entries.now c.loop-entry.entry-index c.entry-item.result c.loop-entry-test.true, c.loop-entry.invariant, c.if-len-left.true)
