use Rattle.std.proofs.Common.{sym, ◌∙◌}
use Rattle.trie_build.proofs.Words.{decides, ends, leaves}
use Rattle.trie_build.proofs.first_labels.compare_prefixes.Goals as goal

pub returns-then-ne : goal.returns-then-ne
returns-then-ne c = sym (c.compare_words-first.ensures ∙ decides c.compare_words-first.result _ (sym c.ne.ensures ∙ c.if-ne.true))

pub returns-then-ne-2 : goal.returns-then-ne-2
returns-then-ne-2 c =
    sym (c.compare_words-first.ensures ∙ leaves c.compare_words-first.result _ (sym c.ne.ensures ∙ c.if-ne.false)
    ∙ c.compare_words-second.ensures ∙ decides c.compare_words-second.result _ (sym c.ne-2.ensures ∙ c.if-ne-2.true))

pub returns : goal.returns
returns c =
    sym (c.compare_words-first.ensures ∙ leaves c.compare_words-first.result _ (sym c.ne.ensures ∙ c.if-ne.false)
    ∙ c.compare_words-second.ensures ∙ leaves c.compare_words-second.result _ (sym c.ne-2.ensures ∙ c.if-ne-2.false)
    ∙ c.compare_words.ensures ∙ ends c.compare_words.result c.args.prefix.now c.args.other.now c.told-prefix c.told-other)
