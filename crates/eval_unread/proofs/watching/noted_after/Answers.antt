use Rattle.std.proofs.Common.{◌++◌, None, ap, ◌∙◌}
use Rattle.eval_unread.specs.Unread.{rules_unread}
use Rattle.eval_unread.proofs.AllNoted.{all_noted}
use Rattle.eval_unread.proofs.watching.noted_after.Goals as goal

pub returns : goal.returns
returns g c =
    all_noted (g.K.Knowledge.known c.args.knowledge.now) c.args.rules.now c.in_ok-scene.scene c.run_watched-went.new.scene c.args.notes c.run_watched-went.new.watch c.noted.inside.notes
    c.in_ok-went.ensures.watch c.noted.view_is
    ∙ ap (λ s. c.args.notes ++ rules_unread (g.K.Knowledge.known c.args.knowledge.now) None c.args.rules.now s) c.in_ok-scene.ensures
