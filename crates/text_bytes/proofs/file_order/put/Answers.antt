use Rattle.std.proofs.Common.{◌≡◌, ◌∙◌, sym}
use Rattle.text_bytes.proofs.Placing.{named_inserted, put_hidden, put_shown}
use Rattle.text_bytes.proofs.file_order.put.Goals as goal

pub returns-in_ok-insert-clause-files : goal.returns-in_ok-insert-clause-files
returns-in_ok-insert-clause-files c =
    let own : c.in_ok-name.name.items ≡ c.args.file.name = c.in_ok-name.ensures.items ∙ c.as_slice.ensures in
    rw c.in_ok-insert.ensures.entries (put_shown (λ name. name.items) c.args.kept.now.entries c.in_ok-name.name c.args.file c.requires.names own (sym c.is_hidden.ensures ∙ c.if-not-is_hidden.true))

pub returns-in_ok-insert-clause-names : goal.returns-in_ok-insert-clause-names
returns-in_ok-insert-clause-names c =
    let own : c.in_ok-name.name.items ≡ c.args.file.name = c.in_ok-name.ensures.items ∙ c.as_slice.ensures in
    rw c.in_ok-insert.ensures.entries (named_inserted (λ name. name.items) c.args.kept.now.entries c.in_ok-name.name c.args.file c.requires.names own)

pub returns-else-not-is_hidden-clause-files : goal.returns-else-not-is_hidden-clause-files
returns-else-not-is_hidden-clause-files c =
    put_hidden (λ name. name.items) c.args.kept.now.entries c.args.file c.requires.names c.requires.rise (sym c.is_hidden.ensures ∙ c.if-not-is_hidden.false)
