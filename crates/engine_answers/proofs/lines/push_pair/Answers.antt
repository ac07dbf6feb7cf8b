use Rattle.std.proofs.Common.{◌++◌, ◌∷◌, [], ap, sym, append_assoc, ◌∙◌}
use Rattle.text_bytes.specs.Names.{newline}
use Rattle.engine_answers.specs.Inner.{pair_words}
use Rattle.engine_sessions.proofs.Plain.{are_plain}
use Rattle.engine_answers.proofs.Plain.{added_is, plain_pair}
use Rattle.engine_answers.proofs.lines.push_pair.Goals as goal

pub returns-then-is_plain : goal.returns-then-is_plain
returns-then-is_plain c =
    c.in_ok-push.ensures.items
    ∙ ap (λ l. l ++ newline ∷ []) c.in_ok-push_words.ensures
    ∙ append_assoc c.args.lines.now.items (pair_words c.args.word.now c.args.name.now c.args.value.now) (newline ∷ [])
    ∙ ap (λ l. c.args.lines.now.items ++ l) (plain_pair c.args.word.now c.args.name.now c.args.value.now
    (sym (c.is_plain.ensures
    ∙ ap are_plain (added_is c.args.lines.now.items (pair_words c.args.word.now c.args.name.now c.args.value.now) c.deref.result.now c.len-before.result (c.len-before.ensures ∙ c.args.lines.now.ok.0) (c.deref.ensures.value ∙ c.in_ok-push_words.ensures))) ∙ c.if-is_plain.true))
