use Rattle.text_tables.proofs.Held.{names_once}
use Rattle.text_tables.proofs.table.Table.len.Goals as goal

pub returns-clause-once : goal.returns-clause-once
returns-clause-once g c = rw (← c.self.view_is) (names_once (λ k. k.now) (λ v. v) c.self.inside.held.entries c.len.ensures.unique)
