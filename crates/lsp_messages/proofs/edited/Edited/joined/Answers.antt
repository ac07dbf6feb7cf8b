use Rattle.std.proofs.Common.{◌∙◌, arith}
use Rattle.lsp_messages.proofs.Moving.{all_joined}
use Rattle.lsp_messages.proofs.edited.Edited.joined.Goals as goal

pub returns : goal.returns
returns c =
    let first = rw (c.new-text.ensures.items, c.deref.ensures.value) at c.in_ok-push_all.ensures in
    c.new.ensures
    ∙ all_joined c.self.inside.before.items c.self.inside.after.items c.len-count.result c.push_all.new.text.items c.take_rows.new.text.items
    (omega (arith, c.len-count.ensures)) first c.in_ok-take_rows.ensures.taken ∙ c.self.view_is
