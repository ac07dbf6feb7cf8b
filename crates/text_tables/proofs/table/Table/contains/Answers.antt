use Rattle.text_tables.proofs.Held.{has}
use Rattle.text_tables.proofs.table.Table.contains.Goals as goal

pub returns : goal.returns
returns g c = rw (c.contains_key.ensures, ← c.self.view_is) (has (λ k. k.now) (λ v. v) c.self.inside.held.entries c.args.name.now)
