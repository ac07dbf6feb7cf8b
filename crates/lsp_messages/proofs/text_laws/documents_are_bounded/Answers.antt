use Rattle.lsp_messages.proofs.Holding.{still_held}
use Rattle.lsp_messages.proofs.text_laws.documents_are_bounded.Goals as goal

pub returns : goal.returns
returns c = still_held
