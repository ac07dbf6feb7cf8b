use Rattle.lsp_words.proofs.Reading.{first_read, token_read}
use Rattle.lsp_words.proofs.laws.a_value_belongs_to_its_token.Goals as goal

pub returns-clause-first : goal.returns-clause-first
returns-clause-first c = first_read

pub returns-clause-later : goal.returns-clause-later
returns-clause-later c = token_read
