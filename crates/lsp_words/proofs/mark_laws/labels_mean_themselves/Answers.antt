use Rattle.lsp_words.proofs.Jumping.{label_itself}
use Rattle.lsp_words.proofs.mark_laws.labels_mean_themselves.Goals as goal

pub returns : goal.returns
returns c = label_itself
