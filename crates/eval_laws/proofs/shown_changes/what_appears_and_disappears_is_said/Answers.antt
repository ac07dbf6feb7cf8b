use Rattle.eval_laws.proofs.Appearing.{added_is_said, removed_is_said, set_is_said}
use Rattle.eval_laws.proofs.shown_changes.what_appears_and_disappears_is_said.Goals as goal

pub returns : goal.returns
returns c = record { set = set_is_said; removed = removed_is_said; added = added_is_said }
