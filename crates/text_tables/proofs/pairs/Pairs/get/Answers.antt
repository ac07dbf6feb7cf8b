use Rattle.text_tables.proofs.Held.{found}
use Rattle.text_tables.proofs.pairs.Pairs.get.Goals as goal

pub returns : goal.returns
returns c = rw (c.copied.ensures, c.get.ensures.value, ← c.self.view_is) (found (λ k. k.now) (λ v. v.now) c.self.inside.held.entries c.args.name.now)
