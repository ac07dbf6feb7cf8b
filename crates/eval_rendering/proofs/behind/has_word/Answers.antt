use Rattle.std.proofs.Common.{rules, tests, ◌==◌}
use Rattle.std.proofs.lemmas.Iterator.Search.{any_from_yields_List}
use Rattle.std.proofs.lemmas.Iterator.Splits.{YieldsList-from_slice_split}
use Rattle.text_bytes.specs.Names.{space}
use Rattle.text_tables.specs.Texts.{same_text}
use Rattle.eval_rendering.proofs.behind.has_word.Goals as goal

pub returns : goal.returns
returns c =
    any_from_yields_List (λ word. same_text word c.args.wanted.now) _ _ _ c.any.ensures.ran
    (YieldsList-from_slice_split _ (λ b. b == space) c.args.words.now c.split.ensures.rest c.split.ensures.done c.split.ensures.closure (λ x b q k. search (rules, tests)))
    (λ x b q k. search (rules, tests))
