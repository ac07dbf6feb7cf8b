use Rattle.lsp_server.proofs.Others.{named_stays, opening_stays}
use Rattle.lsp_server.proofs.laws.other_documents_stay.Goals as goal

pub returns-clause-opened : goal.returns-clause-opened
returns-clause-opened c server params opened other is apart = opening_stays server.phase server params opened other is apart

pub returns-clause-named : goal.returns-clause-named
returns-clause-named c server method params uri other differs is apart = named_stays server.phase server method params uri other differs is apart
