use Rattle.engine_formats.proofs.Commands.{property_ends_none, text_ends_no_line}
use Rattle.engine_formats.proofs.laws.commands_end_nowhere_within.Goals as goal

pub returns-clause-text : goal.returns-clause-text
returns-clause-text c said = text_ends_no_line said

pub returns-clause-property : goal.returns-clause-property
returns-clause-property c value = property_ends_none value
