use Rattle.std.proofs.Common.{[], ◌∷◌, ◌++◌, ap, ◌∙◌}
use Rattle.std.proofs.lemmas.Result.{on_ok_weaker}
use Rattle.eval_acts.specs.Acts.{act_step}
use Rattle.eval_courses.proofs.Reporting.{act_is}
use Rattle.eval_courses.specs.Inner.{done_report}
use Rattle.eval_courses.proofs.acts.report_act.Goals as goal

pub returns-clause-text : goal.returns-clause-text
returns-clause-text g c =
    on_ok_weaker c.report_done-proceeds.result
    (λ reported.
    reported
    ∙ ap (λ state. c.args.texts.now.items ++ done_report c.args.act.now c.in_ok-before.before (record c.args.scene.now { state = state }) (act_step (g.K.Knowledge.known c.args.knowledge.now) c.args.rule.now c.args.act.now (record c.args.scene.now { state = state })) ∷ [])
    c.in_ok-before.ensures.kept
    ∙ ap (λ text. c.args.texts.now.items ++ text ∷ [])
    (act_is (g.K.Knowledge.known c.args.knowledge.now) c.args.rule.now c.args.act.now c.args.scene.now c.in_ok-before.before c.in_ok-before.ensures.reported))
    c.report_done-proceeds.ensures.text
