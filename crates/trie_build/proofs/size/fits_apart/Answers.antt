use Rattle.std.proofs.Common.{arith}
use Rattle.trie_build.proofs.Sizing.{few_sets, short_names}
use Rattle.trie_build.proofs.size.fits_apart.Goals as goal

pub returns-then-all-le-MAX_INDEX_LEN : goal.returns-then-all-le-MAX_INDEX_LEN
returns-then-all-le-MAX_INDEX_LEN c =
    λ t. omega (arith, c.texts_fit_apart.ensures t, c.if-all-le-MAX_INDEX_LEN.true, few_sets c.args.nodes.now, short_names c.args.entries.now)
