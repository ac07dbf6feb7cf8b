use Rattle.std.proofs.Common.{ap, map, sym, ◌∙◌}
use Rattle.std.specs.Map.{lookup}
use Rattle.text_tables.proofs.Held.{is_text, removed_name, seen}
use Rattle.lsp_messages.proofs.Holding.{held_without}
use Rattle.lsp_messages.proofs.documents.Documents.close.Goals as goal

pub invariant_of-self : goal.invariant_of-self
invariant_of-self c =
    rw (c.shift_remove.ensures.entries, removed_name (λ k. k.items) (λ v. v) c.self.inside.held.entries c.args.uri.now (ap (lookup (is_text (λ k. k.items) c.args.uri.now)) (sym c.shift_remove.ensures.entries) ∙ c.shift_remove.ensures.updates.1))
    (held_without (map (seen (λ k. k.items) (λ v. v)) c.self.inside.held.entries) c.args.uri.now c.self.invariant)

pub returns : goal.returns
returns c =
    rw (c.shift_remove.ensures.entries, ← c.self.view_is)
    (removed_name (λ k. k.items) (λ v. v) c.self.inside.held.entries c.args.uri.now (ap (lookup (is_text (λ k. k.items) c.args.uri.now)) (sym c.shift_remove.ensures.entries) ∙ c.shift_remove.ensures.updates.1))
