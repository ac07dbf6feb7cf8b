use Rattle.lsp_messages.proofs.Characters.{units_utf16, units_utf8}
use Rattle.lsp_messages.proofs.text_laws.units_are_those_of_characters.Goals as goal

pub returns-clause-utf8 : goal.returns-clause-utf8
returns-clause-utf8 c = units_utf8

pub returns-clause-utf16 : goal.returns-clause-utf16
returns-clause-utf16 c = units_utf16
