use Rattle.text_tables.proofs.Held.{added}
use Rattle.text_tables.proofs.owned_texts.OwnedTexts.add.Goals as goal

pub returns-clause-texts : goal.returns-clause-texts
returns-clause-texts c =
    rw (c.in_ok-insert.ensures.keys, ← c.self.view_is, ← c.in_ok-text.ensures.items)
    (added (λ k. k.items) c.self.inside.held.keys c.in_ok-text.text)
