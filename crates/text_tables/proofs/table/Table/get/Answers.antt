use Rattle.text_tables.proofs.Held.{borrowed}
use Rattle.text_tables.proofs.table.Table.get.Goals as goal

pub returns : goal.returns
returns g c = rw (← c.self.view_is) (borrowed (λ k. k.now) (λ v. v) c.self.inside.held.entries c.args.name.now c.get.result c.get.ensures.value)
