use Rattle.std.proofs.Common.{ap, sym, ◌∙◌}
use Rattle.std.specs.List.{list_any}
use Rattle.text_tables.proofs.Held.{is_text, removed}
use Rattle.text_tables.proofs.owned_texts.OwnedTexts.remove.Goals as goal

pub returns : goal.returns
returns c =
    rw (c.shift_remove.ensures.keys, ← c.self.view_is)
    (removed (λ k. k.items) c.self.inside.held.keys c.args.text.now (ap (list_any (is_text (λ k. k.items) c.args.text.now)) (sym c.shift_remove.ensures.keys) ∙ c.shift_remove.ensures.updates.1))
