use Rattle.std.proofs.Common.{None, ap, map, ◌∙◌}
use Rattle.std.specs.List.{flat_map}
use Rattle.eval_effects.specs.Since.{no_since}
use Rattle.engine_courses.specs.WhyLines.{reported_from, rule_lines}
use Rattle.engine_courses.proofs.Telling.{all_told}
use Rattle.engine_courses.proofs.reporting.reported_lines.Goals as goal

pub returns : goal.returns
returns g c =
    all_told (g.K.Knowledge.known c.args.knowledge.now) (map (λ t. t.now) c.args.why.now) c.args.rules.now c.in_ok-scene.scene c.run_watched-went.new.scene c.new-reporter.result c.run_watched-went.new.watch
    c.into_lines.result.items c.new-reporter.ensures c.in_ok-went.ensures.watch c.into_lines.ensures
    ∙ ap (λ s. flat_map rule_lines (reported_from (map (λ t. t.now) c.args.why.now) (g.K.Knowledge.known c.args.knowledge.now) no_since None c.args.rules.now s)) c.in_ok-scene.ensures
