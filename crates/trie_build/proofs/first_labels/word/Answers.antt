use Rattle.std.proofs.Common.{◌∙◌, arith}
use Rattle.trie_build.proofs.Words.{word_is}
use Rattle.trie_build.proofs.first_labels.word.Goals as goal

pub returns : goal.returns
returns c = c.from_be_bytes.ensures ∙ word_is c.args.prefix.now c.args.from (omega (arith, c.told-prefix, c.requires))
