use Rattle.std.proofs.Common.{ap, take, ◌∙◌}
use Rattle.std.proofs.lemmas.List.{take_min}
use Rattle.eval_rendering.specs.Bounds.{most_value_bytes}
use Rattle.eval_rendering.proofs.udev.capped.Goals as goal

pub returns : goal.returns
returns c = c.split_at.ensures.front ∙ ap (λ n. take n c.args.text.now) c.min.ensures ∙ take_min most_value_bytes c.args.text.now
