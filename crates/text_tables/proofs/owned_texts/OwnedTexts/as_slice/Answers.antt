use Rattle.text_tables.proofs.Held.{once}
use Rattle.text_tables.proofs.owned_texts.OwnedTexts.as_slice.Goals as goal

pub returns-clause-once : goal.returns-clause-once
returns-clause-once c = rw (← c.self.view_is) (once (λ k. k.items) c.self.inside.held.keys c.as_slice.ensures.unique)
