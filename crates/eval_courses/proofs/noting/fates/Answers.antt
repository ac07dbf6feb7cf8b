use Rattle.std.proofs.Common.{None, ap, ◌∙◌}
use Rattle.eval_courses.specs.Fates.{fates_from}
use Rattle.eval_courses.specs.Inner.{Noted}
use Rattle.eval_courses.proofs.Fated.{all_noted}
use Rattle.eval_courses.proofs.noting.fates.Goals as goal

pub returns : goal.returns
returns g c =
    all_noted (g.K.Knowledge.known c.args.knowledge.now) c.args.rules.now c.in_ok-scene.scene c.run_watched-went.new.scene c.new-noted.result c.run_watched-went.new.watch c.noted.inside.fates.items
    c.new-noted.ensures c.in_ok-went.ensures.watch (ap (λ (n : Noted). n.fates) c.noted.view_is)
    ∙ ap (λ s. fates_from (g.K.Knowledge.known c.args.knowledge.now) None c.args.rules.now s) c.in_ok-scene.ensures
