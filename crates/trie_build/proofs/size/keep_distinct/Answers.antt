use Rattle.std.proofs.lemmas.List.Filters.{dedup_is}
use Rattle.trie_build.proofs.Sizing.{once, same}
use Rattle.trie_build.proofs.size.keep_distinct.Goals as goal

pub returns : goal.returns
returns c =
    once c.args.texts.now.items _ _ _ (dedup_is same _ _ c.dedup.ensures.filtered) c.sort_unstable.ensures.permutation c.sort_unstable.ensures.sorted
    (dedup_is same _ _ c.dedup-2.ensures.filtered)
