use Rattle.std.proofs.Common.{◌∙◌, subst, sym}
use Rattle.std.specs.List.Sorted.{IsNonDecreasing}
use Rattle.lsp_messages.proofs.Starting.{starts_rise}
use Rattle.lsp_messages.proofs.rows.Rows.line.Goals as goal

pub line_at-requires : goal.line_at-requires
line_at-requires c = subst IsNonDecreasing (sym (c.deref.ensures.value ∙ c.self.invariant)) (starts_rise 0 c.self.inside.text.now)
