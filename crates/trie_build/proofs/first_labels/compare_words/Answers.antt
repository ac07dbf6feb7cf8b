use Rattle.std.proofs.Common.{arith}
use Rattle.trie_build.proofs.Words.{words_compare}
use Rattle.trie_build.proofs.first_labels.compare_words.Goals as goal

pub returns : goal.returns
returns c =
    rw (c.cmp.ensures, c.word.ensures, c.word-2.ensures)
    (words_compare c.args.prefix.now c.args.other.now c.args.from (omega (arith, c.told-prefix, c.requires)) (omega (arith, c.told-other, c.requires)) (λ k _. c.fits-prefix k) (λ k _. c.fits-other k))
