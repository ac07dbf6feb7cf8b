use Rattle.text_tables.proofs.Held.{among}
use Rattle.text_tables.proofs.owned_texts.OwnedTexts.contains.Goals as goal

pub returns : goal.returns
returns c = rw (c.contains.ensures, ← c.self.view_is) (among (λ k. k.items) c.self.inside.held.keys c.args.text.now)
