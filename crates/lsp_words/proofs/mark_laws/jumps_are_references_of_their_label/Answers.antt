use Rattle.lsp_words.proofs.Jumping.{among_references}
use Rattle.lsp_words.proofs.mark_laws.jumps_are_references_of_their_label.Goals as goal

pub returns : goal.returns
returns c = among_references
