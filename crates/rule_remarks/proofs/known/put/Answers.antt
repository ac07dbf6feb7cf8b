use Rattle.text_tables.proofs.Held.{set}
use Rattle.rule_remarks.proofs.known.put.Goals as goal

pub returns : goal.returns
returns c = rw c.in_ok-insert.ensures.entries (set (λ k. k.items) (λ v. v) c.args.shared.now.entries c.args.key c.args.reach)
