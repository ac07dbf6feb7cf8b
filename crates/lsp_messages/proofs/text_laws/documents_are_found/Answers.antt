use Rattle.lsp_messages.proofs.Holding.{others_found, own_found}
use Rattle.lsp_messages.proofs.text_laws.documents_are_found.Goals as goal

pub returns-clause-own : goal.returns-clause-own
returns-clause-own c = own_found

pub returns-clause-others : goal.returns-clause-others
returns-clause-others c = others_found
