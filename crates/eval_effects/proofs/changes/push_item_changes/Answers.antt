use Rattle.eval_effects.proofs.Tables.{reported_same}
use Rattle.eval_effects.proofs.changes.push_item_changes.Goals as goal

pub returns : goal.returns
returns c =
    reported_same _ _ _ c.args.was.now c.args.now.now _ _ c.in_ok-was_table.ensures c.in_ok-now_table.ensures c.in_ok-push_all_removed.ensures c.in_ok-push_all_set.ensures
