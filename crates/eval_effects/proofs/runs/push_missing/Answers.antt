use Rattle.std.proofs.Common.{◌≡◌, ◌++◌, rules}
use Rattle.eval_effects.specs.Inner.{missing_run}
use Rattle.eval_effects.proofs.Fronts.{one_more}
use Rattle.eval_effects.proofs.runs.push_missing.Goals as goal
use Rattle.eval_effects.proofs.runs.push_missing.Goals.{then-not-contains+in_ok-run_report+in_ok-push, else-not-contains}

pub loop-run-preserved : goal.loop-run-preserved
loop-run-preserved c =
    let told : c.if-not-contains.reported.items ≡ c.loop-run.reported.items ++ missing_run c.args.became.now c.args.others.now c.run-item.result =
    elim c.if-not-contains.branch [ then-not-contains+in_ok-run_report+in_ok-push w ↦ search rules | else-not-contains w ↦ search rules ] in
    one_more (missing_run c.args.became.now c.args.others.now) c.args.runs.now c.loop-run.run-index c.run-item.result _ _ _ c.loop-run-test.true c.run-item.is c.loop-run.invariant told
