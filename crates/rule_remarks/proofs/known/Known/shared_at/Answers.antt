use Rattle.text_tables.proofs.Held.{borrowed}
use Rattle.rule_remarks.proofs.known.Known.shared_at.Goals as goal

pub returns : goal.returns
returns c = rw (← c.self.view_is) (borrowed (λ k. k.items) (λ v. v) c.self.inside.shared.entries c.args.key.now c.get.result c.get.ensures.value)
