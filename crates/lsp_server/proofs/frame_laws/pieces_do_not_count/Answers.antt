use Rattle.lsp_server.proofs.ItemLemmas.{held_both, items_both}
use Rattle.lsp_server.proofs.frame_laws.pieces_do_not_count.Goals as goal

pub returns : goal.returns
returns c = record { held = held_both; items = items_both }
