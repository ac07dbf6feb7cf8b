use Rattle.eval_laws.proofs.Bracketed.{plainly_named, slash_named, written_so}
use Rattle.eval_laws.proofs.naming.a_name_in_brackets_names_a_device.Goals as goal

pub returns-clause-plain : goal.returns-clause-plain
returns-clause-plain c = plainly_named

pub returns-clause-slashed : goal.returns-clause-slashed
returns-clause-slashed c = slash_named

pub returns-clause-others : goal.returns-clause-others
returns-clause-others c = written_so
