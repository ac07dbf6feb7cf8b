use Rattle.eval_laws.proofs.Changing.{first_alone}
use Rattle.eval_laws.proofs.changes.assigned_texts_are_alone.Goals as goal

pub returns-clause-first : goal.returns-clause-first
returns-clause-first c = λ text others texts. first_alone text others
