use Rattle.lsp_words.proofs.Jumping.{goes_to_first}
use Rattle.lsp_words.proofs.mark_laws.jumps_go_to_the_first.Goals as goal

pub returns : goal.returns
returns c = goes_to_first
