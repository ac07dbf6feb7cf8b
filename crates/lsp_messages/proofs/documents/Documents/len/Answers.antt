use Rattle.text_tables.proofs.Held.{names_once}
use Rattle.lsp_messages.proofs.documents.Documents.len.Goals as goal

pub returns-clause-once : goal.returns-clause-once
returns-clause-once c = rw (← c.self.view_is) (names_once (λ k. k.items) (λ v. v) c.self.inside.held.entries c.len.ensures.unique)
