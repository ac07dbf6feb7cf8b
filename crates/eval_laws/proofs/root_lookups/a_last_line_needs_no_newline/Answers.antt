use Rattle.eval_laws.proofs.LastLines.{same_outcome}
use Rattle.eval_laws.proofs.root_lookups.a_last_line_needs_no_newline.Goals as goal

pub returns : goal.returns
returns c = same_outcome
