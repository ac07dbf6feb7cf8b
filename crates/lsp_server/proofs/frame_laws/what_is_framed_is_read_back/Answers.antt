use Rattle.lsp_server.proofs.ItemLemmas.{frames_read}
use Rattle.lsp_server.proofs.frame_laws.what_is_framed_is_read_back.Goals as goal

pub returns : goal.returns
returns c = record { items = λ contents fit. (frames_read contents fit).items_are; held = λ contents fit. (frames_read contents fit).held_is }
