use Rattle.std.proofs.Common.{◌∙◌}
use Rattle.eval_rules.proofs.Rendering.{finished}
use Rattle.eval_rules.proofs.evaluating.rendered.Goals as goal

pub returns : goal.returns
returns c =
    finished c.args.scene.now c.all_commands.new.scene c.as_slice.result.now c.replace-runs.new.dest c.replace-env.result c.in_ok-sorted.sorted c.in_ok-commands.commands
    (c.as_slice.ensures ∙ c.replace-runs.ensures.value) (c.replace-runs.ensures.after ∙ c.new.ensures) c.in_ok-commands.ensures.scene c.replace-env.ensures.value c.in_ok-sorted.ensures c.in_ok-commands.ensures.commands
