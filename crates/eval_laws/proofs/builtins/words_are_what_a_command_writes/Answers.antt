use Rattle.eval_laws.proofs.Law.{is_read, is_read_to_end}
use Rattle.eval_laws.proofs.builtins.words_are_what_a_command_writes.Goals as goal

pub returns-clause-manual : goal.returns-clause-manual
returns-clause-manual c = is_read

pub returns-clause-udev : goal.returns-clause-udev
returns-clause-udev c = is_read_to_end
