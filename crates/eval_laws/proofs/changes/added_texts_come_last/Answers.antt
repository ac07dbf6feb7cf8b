use Rattle.eval_laws.proofs.Changing.{among_all, following}
use Rattle.eval_laws.proofs.changes.added_texts_come_last.Goals as goal

pub returns-clause-order : goal.returns-clause-order
returns-clause-order c = following

pub returns-clause-members : goal.returns-clause-members
returns-clause-members c = among_all
