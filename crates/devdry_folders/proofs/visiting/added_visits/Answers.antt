use Rattle.std.proofs.Common.{rules}
use Rattle.devdry_folders.proofs.Adding.{added_more}
use Rattle.devdry_folders.proofs.visiting.added_visits.Goals as goal

pub loop-path-preserved : goal.loop-path-preserved
loop-path-preserved g c =
    let may = g.D.Disk.may_answer c.args.disk.now in
    let visit = c.in_ok-visit_added.field-0 in
    rw c.in_ok-push.ensures.items
    (added_more (λ p. p.now) may c.args.paths.now c.loop-path.path-index _ c.loop-path.visits.items visit (search rules)
    c.in_ok-visit_added.ensures.path c.in_ok-visit_added.ensures.visit c.loop-path.invariant)
