use Rattle.std.proofs.Common.{◌≡◌, ◌∙◌, ◌++◌, ap, arith}
use Rattle.std.proofs.lemmas.Grind.{common_steps}
use Rattle.devdry_folders.specs.SightStatus.{status_line}
use Rattle.devdry_folders.proofs.Counting.{line_is}
use Rattle.devdry_folders.proofs.sight_status.push_lines.Goals as goal

pub loop-sight-preserved : goal.loop-sight-preserved
loop-sight-preserved c =
    let more : c.push_line.new.lines.items ≡ c.loop-sight.lines.items ++ status_line c.args.kind c.args.sights.now c.sight-item.result =
    c.in_ok-push_line.ensures
    ∙ ap (λ line. c.loop-sight.lines.items ++ line) (line_is c.args.kind c.args.sights.now c.sight-item.result _ (c.in_ok-files.ensures c.sight-item.result.name)) in
    grind (arith, common_steps)
