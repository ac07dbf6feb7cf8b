use Rattle.text_tables.proofs.Held.{set}
use Rattle.eval_sources.proofs.sources.Sources.put.Goals as goal

pub returns : goal.returns
returns c = rw (c.in_ok-insert.ensures.entries, ← c.self.view_is) (set (λ k. k.items) (λ v. v) c.self.inside.held.entries c.args.name c.args.kept)
