use Rattle.lsp_messages.proofs.Landing.{names_place}
use Rattle.lsp_messages.proofs.text_laws.positions_name_places.Goals as goal

pub returns : goal.returns
returns c = names_place
