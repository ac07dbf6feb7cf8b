use Rattle.std.proofs.Common.{rules, of_calls}
use Rattle.std.proofs.lemmas.Fn.{always_returns_same}
use Rattle.text_bytes.specs.Insertion.{text_order}
use Rattle.trie_build.proofs.NumberLemmas.{found_is, not_missing}
use Rattle.trie_build.proofs.texts.number_of.Goals as goal

pub returns-in-Ok : goal.returns-in-Ok
returns-in-Ok c =
    found_is c.args.texts.now c.args.text.now c.requires.texts.rise c.requires.there c.in-Ok.number c.in-Ok.ensures.bound
    (c.in-Ok.ensures.position (λ b. text_order b.now c.args.text.now) (always_returns_same _ _ _ (λ a r f k. search (rules, of_calls))))

pub returns-in-Err : goal.returns-in-Err
returns-in-Err c =
    absurd (not_missing c.args.texts.now c.args.text.now c.requires.texts.rise c.requires.there c.in-Err.field-0
    (c.in-Err.ensures.position (λ b. text_order b.now c.args.text.now) (always_returns_same _ _ _ (λ a r f k. search (rules, of_calls)))))
