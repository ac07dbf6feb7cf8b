use Rattle.std.proofs.Common.{Some, ap, ◌∙◌}
use Rattle.std.proofs.lemmas.Result.{IfOk-weaker}
use Rattle.text_json.specs.Values.{object_of, value_line}
use Rattle.eval_sources.specs.Sources.{source_of}
use Rattle.eval_sources.specs.Reported.{stages}
use Rattle.eval_unread.specs.Unread.{whole_outcome}
use Rattle.engine_answers.specs.JsonAnswers.{answer_members}
use Rattle.engine_answers.specs.JsonInner.{shape_of}
use Rattle.engine_answers.specs.Members.{sourced, sourced_runs}
use Rattle.engine_answers.proofs.JsonSourced.{values_are}
use Rattle.engine_answers.proofs.json_answers.sourced_answer.Goals as goal

pub returns : goal.returns
returns g c =
    let source = source_of (stages c.args.rules.now (g.K.Knowledge.known c.args.knowledge.now) c.args.event.now) in
    let runs = sourced_runs c.in_ok-found.found.commands.items in
    let held = c.in_ok-found.found.sources in
    let rest =
    ap (λ commands. answer_members (shape_of (Some held)) (sourced_runs commands) c.args.why.now c.args.event.now c.in_ok-found.found.outcome) c.deref.ensures.value
    ∙ values_are _ _ runs c.args.why.now c.args.event.now c.in_ok-found.found.outcome c.in_ok-found.ensures.sources
    ∙ ap (λ o. answer_members (λ item value. sourced (source item) value) runs c.args.why.now c.args.event.now o) c.in_ok-found.ensures.outcome
    ∙ ap (λ commands. answer_members (λ item value. sourced (source item) value) (sourced_runs commands) c.args.why.now c.args.event.now (whole_outcome c.args.rules.now (g.K.Knowledge.known c.args.knowledge.now) c.args.event.now)) c.in_ok-found.ensures.commands in
    IfOk-weaker c.object_line-said.result _ _ (λ text e. e ∙ ap (λ members. value_line (object_of members)) rest) c.object_line-said.ensures
