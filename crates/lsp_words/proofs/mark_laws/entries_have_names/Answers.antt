use Rattle.lsp_words.proofs.Outlines.{entries_named}
use Rattle.lsp_words.proofs.mark_laws.entries_have_names.Goals as goal

pub returns : goal.returns
returns c = entries_named
