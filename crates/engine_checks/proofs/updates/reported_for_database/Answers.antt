use Rattle.std.proofs.Common.{sym, ◌∙◌}
use Rattle.engine_checks.proofs.Updating.{messages_counted, messages_told}
use Rattle.engine_checks.proofs.updates.reported_for_database.Goals as goal

pub returns-then-tells_messages-clause-text : goal.returns-then-tells_messages-clause-text
returns-then-tells_messages-clause-text c =
    messages_told c.args.line.now c.in_ok-asked.asked c.args.files.now c.args.messages.now c.in_ok-told.told.text.items c.in_ok-told.ensures.text c.requires (sym c.tells_messages.ensures ∙ c.if-tells_messages.true)
    c.in_ok-asked.ensures.profile c.in_ok-asked.ensures.accounts c.in_ok-asked.ensures.style c.in_ok-asked.ensures.lint c.in_ok-asked.ensures.ignored c.messages_are_at_their_words.ensures.word

pub returns-then-tells_messages-clause-count : goal.returns-then-tells_messages-clause-count
returns-then-tells_messages-clause-count c =
    messages_counted c.args.line.now c.in_ok-asked.asked c.args.files.now c.args.messages.now c.in_ok-told.told.count c.in_ok-told.ensures.count c.requires (sym c.tells_messages.ensures ∙ c.if-tells_messages.true)
    c.in_ok-asked.ensures.profile c.in_ok-asked.ensures.accounts c.in_ok-asked.ensures.style c.in_ok-asked.ensures.lint c.in_ok-asked.ensures.ignored
