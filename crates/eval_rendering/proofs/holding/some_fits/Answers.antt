use Rattle.std.proofs.Common.{ap, sym, ◌∙◌}
use Rattle.std.specs.List.{list_any}
use Rattle.text_core.specs.Choices.{choice_fits}
use Rattle.text_bytes.proofs.Seen.{any_seen}
use Rattle.eval_rendering.specs.Members.{listed}
use Rattle.eval_rendering.specs.declared.holding.Members.{Members}
use Rattle.eval_rendering.proofs.holding.some_fits.Goals as goal

pub returns-in-Kept : goal.returns-in-Kept
returns-in-Kept c =
    let fits = choice_fits c.args.choice.now in
    c.some_kept_fits.ensures
    ∙ any_seen fits (λ t. t.items) c.in-Kept.texts.now
    ∙ sym (ap (λ (members : Members). list_any fits (listed members)) c.in-Kept.is)

pub returns-in-Given : goal.returns-in-Given
returns-in-Given c =
    let fits = choice_fits c.args.choice.now in
    c.some_given_fits.ensures
    ∙ any_seen fits (λ t. t.now) c.in-Given.texts.now
    ∙ sym (ap (λ (members : Members). list_any fits (listed members)) c.in-Given.is)
