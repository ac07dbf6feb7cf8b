use Rattle.std.proofs.Common.{ap, sym, ◌∙◌}
use Rattle.eval_acts.specs.Acts.{on_text, tried}
use Rattle.eval_acts.specs.Imports.{run_builtin}
use Rattle.eval_acts.proofs.Plain.{is_its_text}
use Rattle.eval_acts.proofs.acting.builtin.Goals as goal

pub returns-in-Some-clause-scene : goal.returns-in-Some-clause-scene
returns-in-Some-clause-scene g c =
    ap tried c.in_ok-done.ensures.scene
    ∙ ap (λ text. on_text (run_builtin (g.K.Knowledge.known c.args.knowledge.now) c.args.rule.now) text c.args.scene.now)
    (sym (is_its_text c.args.template.now c.args.scene.now.state c.in-Some.command.now c.in-Some.ensures))
