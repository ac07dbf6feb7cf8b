use Rattle.text_tables.proofs.Held.{names_once}
use Rattle.text_tables.proofs.pairs.Pairs.len.Goals as goal

pub returns-clause-once : goal.returns-clause-once
returns-clause-once c = rw (← c.self.view_is) (names_once (λ k. k.now) (λ v. v.now) c.self.inside.held.entries c.len.ensures.unique)
