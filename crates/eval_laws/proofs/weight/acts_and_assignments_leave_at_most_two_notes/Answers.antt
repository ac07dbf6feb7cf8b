use Rattle.eval_laws.proofs.Counted.{notes_counted}
use Rattle.eval_laws.proofs.UnreadWeights.{told_counted}
use Rattle.eval_laws.proofs.weight.acts_and_assignments_leave_at_most_two_notes.Goals as goal

pub returns : goal.returns
returns c = record { own = notes_counted; whole = told_counted }
