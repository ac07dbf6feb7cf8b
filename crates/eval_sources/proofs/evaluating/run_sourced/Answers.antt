use Rattle.std.proofs.Common.{[], None, ap, subst, sym, ◌∙◌}
use Rattle.eval_state.specs.declared.scene.Scene.{Scene}
use Rattle.eval_sources.specs.Inner.{Keeper}
use Rattle.eval_sources.specs.Reported.{stages_over}
use Rattle.eval_sources.specs.Sources.{Reports}
use Rattle.eval_sources.proofs.Watching.{run_reports}
use Rattle.eval_sources.proofs.evaluating.run_sourced.Goals as goal

pub returns-clause-sources : goal.returns-clause-sources
returns-clause-sources g c =
    subst (λ held. Reports (stages_over (g.K.Knowledge.known c.args.knowledge.now) c.args.rules.now c.args.scene.now) held)
    (sym (c.into_sources-sources.ensures ∙ ap (λ (at : Scene × Keeper). at.1.1) c.in_ok-run_watched.ensures.watch))
    (run_reports (g.K.Knowledge.known c.args.knowledge.now) c.args.rules.now None c.args.scene.now c.in_ok-keeper.keeper [] None c.in_ok-keeper.ensures.was c.in_ok-keeper.ensures.sources)
