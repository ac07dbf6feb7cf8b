use Rattle.lsp_messages.proofs.Landing.{comes_back}
use Rattle.lsp_messages.proofs.text_laws.places_come_back.Goals as goal

pub returns : goal.returns
returns c = comes_back
