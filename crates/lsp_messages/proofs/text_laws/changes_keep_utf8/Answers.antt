use Rattle.lsp_messages.proofs.Characters.{keeps_utf8}
use Rattle.lsp_messages.proofs.text_laws.changes_keep_utf8.Goals as goal

pub returns : goal.returns
returns c = keeps_utf8
