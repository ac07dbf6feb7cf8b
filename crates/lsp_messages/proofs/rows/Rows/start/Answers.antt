use Rattle.std.proofs.Common.{◌-◌, ◌∙◌}
use Rattle.lsp_messages.proofs.Starting.{start_found}
use Rattle.lsp_messages.proofs.rows.Rows.start.Goals as goal

pub returns-in-Some-clause-within : goal.returns-in-Some-clause-within
returns-in-Some-clause-within c =
    rw (← c.self.view_is)
    (start_found c.self.inside.text.now c.deref.result.now (c.args.line - 1) c.in-Some.start.now (c.deref.ensures.value ∙ c.self.invariant)
    c.in-Some.ensures.lookup.3.0 (c.in-Some.ensures.lookup.3.1 0))
