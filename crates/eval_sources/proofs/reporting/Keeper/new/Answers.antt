use Rattle.std.proofs.Common.{[], None, ap, ◌∙◌}
use Rattle.eval_sources.specs.Inner.{kept_after}
use Rattle.eval_sources.proofs.Keeping.{keeps_start}
use Rattle.eval_sources.proofs.reporting.Keeper.new.Goals as goal

pub returns-clause-sources : goal.returns-clause-sources
returns-clause-sources c =
    keeps_start _ _
    (c.in_ok-report.ensures ∙ ap (λ held. kept_after held None c.in_ok-items.items.items) c.new-sources.ensures ∙ ap (kept_after [] None) c.in_ok-items.ensures)
