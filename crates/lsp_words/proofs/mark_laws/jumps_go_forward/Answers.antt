use Rattle.lsp_words.proofs.Jumping.{goes_forward}
use Rattle.lsp_words.proofs.mark_laws.jumps_go_forward.Goals as goal

pub returns : goal.returns
returns c = goes_forward
