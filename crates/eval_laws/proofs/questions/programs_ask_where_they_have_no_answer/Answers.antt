use Rattle.eval_laws.proofs.Noting.{import_noted}
use Rattle.eval_laws.proofs.questions.programs_ask_where_they_have_no_answer.Goals as goal

pub returns-clause-imported : goal.returns-clause-imported
returns-clause-imported c known r act template s is udev = import_noted known r act template s is udev
