use Rattle.std.proofs.Common.{ap, ◌∙◌}
use Rattle.std.proofs.lemmas.Result.{IfOk-weaker}
use Rattle.eval_unread.specs.Unread.{completed}
use Rattle.engine_answers.specs.Answers.{answer}
use Rattle.engine_answers.proofs.tables.answer_with_rules.Goals as goal

pub returns : goal.returns
returns g c =
    let known = g.K.Knowledge.known c.args.knowledge.now in
    let whole =
    c.in_ok-outcome.ensures
    ∙ ap (λ rules. completed rules known c.args.event.now c.in_ok-own.own) c.rules.ensures
    ∙ ap (completed c.args.program.now known c.args.event.now) c.in_ok-own.ensures in
    IfOk-weaker c.answer-said.result _ _ (λ text e. e ∙ ap (answer c.args.event.now) whole) c.answer-said.ensures
