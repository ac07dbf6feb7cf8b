use Rattle.text_tables.proofs.Held.{among}
use Rattle.text_tables.proofs.texts.Texts.contains.Goals as goal

pub returns : goal.returns
returns c = rw (c.contains.ensures, ← c.self.view_is) (among (λ k. k.now) c.self.inside.held.keys c.args.text.now)
