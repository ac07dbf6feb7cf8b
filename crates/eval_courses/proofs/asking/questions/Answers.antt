use Rattle.std.proofs.Common.{[], None, ap, ◌∙◌}
use Rattle.eval_courses.specs.Questions.{rules_ask, with_asked}
use Rattle.eval_courses.proofs.AllAsked.{all_asked}
use Rattle.eval_courses.proofs.asking.questions.Goals as goal

pub returns : goal.returns
returns g c =
    all_asked (g.K.Knowledge.known c.args.knowledge.now) c.args.rules.now c.in_ok-scene.scene c.run_watched-went.new.scene c.new-commands.result c.run_watched-went.new.watch c.asked.inside.commands
    c.new-commands.ensures c.in_ok-went.ensures.watch c.asked.view_is
    ∙ ap (λ s. with_asked [] (rules_ask (g.K.Knowledge.known c.args.knowledge.now) None c.args.rules.now s)) c.in_ok-scene.ensures
