use Rattle.json.proofs.Numbered.{HasNumbers-get}
use Rattle.lsp_messages.proofs.message.called.Goals as goal

pub returns-in-Number-clause-numbers : goal.returns-in-Number-clause-numbers
returns-in-Number-clause-numbers c h = HasNumbers-get _ _ _ h c.in-Some.ensures
