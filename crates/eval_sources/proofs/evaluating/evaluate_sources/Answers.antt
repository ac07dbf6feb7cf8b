use Rattle.std.proofs.Common.{None, ap, ◌∙◌}
use Rattle.eval_rules.specs.Jumps.{run}
use Rattle.eval_rules.specs.Outcomes.{outcome_of}
use Rattle.eval_sources.proofs.Ending.{one_outcome}
use Rattle.eval_sources.proofs.evaluating.evaluate_sources.Goals as goal

pub returns-in_ok-outcome-in-Ok-clause-outcome : goal.returns-in_ok-outcome-in-Ok-clause-outcome
returns-in_ok-outcome-in-Ok-clause-outcome g c =
    c.in_ok-outcome-in-Ok.ensures
    ∙ one_outcome _ _ c.in-Ok.ensures.scene
    ∙ ap (λ s. outcome_of (run (g.K.Knowledge.known c.args.knowledge.now) None c.args.rules.now s)) c.in_ok-scene.ensures
