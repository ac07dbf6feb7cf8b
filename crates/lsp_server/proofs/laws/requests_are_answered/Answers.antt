use Rattle.lsp_server.proofs.Answering.{request_answered}
use Rattle.lsp_server.proofs.laws.requests_are_answered.Goals as goal

pub returns-clause-answered : goal.returns-clause-answered
returns-clause-answered c server id method params = (request_answered server.phase server id method params).0

pub returns-clause-documents : goal.returns-clause-documents
returns-clause-documents c server id method params = (request_answered server.phase server id method params).1
