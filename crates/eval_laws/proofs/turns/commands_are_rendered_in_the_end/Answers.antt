use Rattle.eval_laws.proofs.Following.{made_set, one_command}
use Rattle.eval_laws.proofs.turns.commands_are_rendered_in_the_end.Goals as goal

pub returns-clause-kept : goal.returns-clause-kept
returns-clause-kept c = one_command

pub returns-clause-made : goal.returns-clause-made
returns-clause-made c = made_set
