use Rattle.std.proofs.Common.{ap, map, sym, ◌∙◌}
use Rattle.text_tables.proofs.Held.{seen}
use Rattle.lsp_messages.specs.Documents.{may_be_held}
use Rattle.lsp_messages.proofs.Holding.{held_again, held_with, held_without, is_dropped, is_kept}
use Rattle.lsp_messages.proofs.documents.Documents.put.Goals as goal

pub invariant_of-self-then-may_be_held : goal.invariant_of-self-then-may_be_held
invariant_of-self-then-may_be_held c = sym c.may_be_held.ensures ∙ c.if-may_be_held.true

pub returns-then-may_be_held-clause-kept : goal.returns-then-may_be_held-clause-kept
returns-then-may_be_held-clause-kept c =
    rw (← c.self.view_is)
    (sym c.if-may_be_held.true ∙ c.may_be_held.ensures
    ∙ ap may_be_held (held_with (λ k. k.items) c.self.inside.held.entries c.insert.new.self.entries c.in_ok-name.name c.args.uri.now c.args.document c.in_ok-insert.ensures.entries c.in_ok-name.ensures.items))

pub returns-then-may_be_held-clause-documents : goal.returns-then-may_be_held-clause-documents
returns-then-may_be_held-clause-documents c =
    rw (← c.self.view_is)
    (is_kept (map (seen (λ k. k.items) (λ d. d)) c.self.inside.held.entries) (map (seen (λ k. k.items) (λ d. d)) c.insert.new.self.entries) c.args.uri.now c.args.document
    (held_with (λ k. k.items) c.self.inside.held.entries c.insert.new.self.entries c.in_ok-name.name c.args.uri.now c.args.document c.in_ok-insert.ensures.entries c.in_ok-name.ensures.items)
    (sym c.may_be_held.ensures ∙ c.if-may_be_held.true))

pub invariant_of-self-2 : goal.invariant_of-self-2
invariant_of-self-2 c =
    let put = held_with (λ k. k.items) c.self.inside.held.entries c.insert.new.self.entries c.in_ok-name.name c.args.uri.now c.args.document c.in_ok-insert.ensures.entries c.in_ok-name.ensures.items in
    ap may_be_held (held_again (λ k. k.items) c.self.inside.held.entries c.insert.new.self.entries c.shift_remove.new.self.entries c.args.uri.now c.args.document put c.shift_remove.ensures.entries c.shift_remove.ensures.updates.1)
    ∙ held_without (map (seen (λ k. k.items) (λ d. d)) c.self.inside.held.entries) c.args.uri.now c.self.invariant

pub returns-clause-kept : goal.returns-clause-kept
returns-clause-kept c =
    rw (← c.self.view_is)
    (sym c.if-may_be_held.false ∙ c.may_be_held.ensures
    ∙ ap may_be_held (held_with (λ k. k.items) c.self.inside.held.entries c.insert.new.self.entries c.in_ok-name.name c.args.uri.now c.args.document c.in_ok-insert.ensures.entries c.in_ok-name.ensures.items))

pub returns-clause-documents : goal.returns-clause-documents
returns-clause-documents c =
    let put = held_with (λ k. k.items) c.self.inside.held.entries c.insert.new.self.entries c.in_ok-name.name c.args.uri.now c.args.document c.in_ok-insert.ensures.entries c.in_ok-name.ensures.items in
    rw (← c.self.view_is)
    (is_dropped (map (seen (λ k. k.items) (λ d. d)) c.self.inside.held.entries) (map (seen (λ k. k.items) (λ d. d)) c.insert.new.self.entries)
    (map (seen (λ k. k.items) (λ d. d)) c.shift_remove.new.self.entries) c.args.uri.now c.args.document put (sym c.may_be_held.ensures ∙ c.if-may_be_held.false)
    (held_again (λ k. k.items) c.self.inside.held.entries c.insert.new.self.entries c.shift_remove.new.self.entries c.args.uri.now c.args.document put c.shift_remove.ensures.entries c.shift_remove.ensures.updates.1))
