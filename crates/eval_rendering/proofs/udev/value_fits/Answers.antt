use Rattle.std.proofs.Common.{ap, ◌∙◌}
use Rattle.text_core.specs.Choices.{choice_fits}
use Rattle.eval_rendering.specs.Udev.{compared_with}
use Rattle.eval_rendering.proofs.udev.value_fits.Goals as goal

pub returns : goal.returns
returns c =
    c.fits.ensures
    ∙ ap (choice_fits c.args.wanted.now.choice) (c.compared_with.ensures ∙ ap (λ value. compared_with value c.args.text.now) c.as_slice.ensures)
