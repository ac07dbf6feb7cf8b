use Rattle.eval_assignments.proofs.PlainLinks.{plain_is_below, plain_is_kept}
use Rattle.eval_assignments.proofs.laws.plain_paths_are_links.Goals as goal

pub returns : goal.returns
returns c = record { relative = plain_is_kept; absolute = plain_is_below }
