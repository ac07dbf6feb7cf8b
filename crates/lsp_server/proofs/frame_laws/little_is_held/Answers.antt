use Rattle.lsp_server.proofs.ItemLemmas.{little}
use Rattle.lsp_server.proofs.frame_laws.little_is_held.Goals as goal

pub returns : goal.returns
returns c = little
