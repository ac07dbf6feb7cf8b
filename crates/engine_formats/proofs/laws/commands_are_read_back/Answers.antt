use Rattle.engine_formats.proofs.Commands.{path_read_back, property_read_back, text_read_back}
use Rattle.engine_formats.proofs.laws.commands_are_read_back.Goals as goal

pub returns-clause-text : goal.returns-clause-text
returns-clause-text c said = text_read_back said

pub returns-clause-property : goal.returns-clause-property
returns-clause-property c value = property_read_back value

pub returns-clause-path : goal.returns-clause-path
returns-clause-path c d = path_read_back d
