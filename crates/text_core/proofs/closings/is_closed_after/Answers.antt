use Rattle.std.proofs.Common.{false, sym, ◌∙◌}
use Rattle.text_core.proofs.Closing.{are_closed, closed_after}
use Rattle.text_core.proofs.Tables.{reports_value, reports_within}
use Rattle.text_core.proofs.closings.is_closed_after.Goals as goal

pub bounds-closed-after : goal.bounds-closed-after
bounds-closed-after c =
    reports_within (are_closed c.args.reading) c.args.closed.now c.args.after.now c.requires.closings c.in-Some.found.following

pub returns-in-Some : goal.returns-in-Some
returns-in-Some c =
    reports_value (are_closed c.args.reading) c.args.closed.now c.args.after.now c.requires.closings c.in-Some.found.following false
    ∙ closed_after c.args.reading c.args.byte c.args.after.now c.in-Some.found (sym c.element_of.ensures.value ∙ c.in-Some.is)
