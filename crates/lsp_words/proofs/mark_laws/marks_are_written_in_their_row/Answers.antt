use Rattle.lsp_words.proofs.Written.{marks_written}
use Rattle.lsp_words.proofs.mark_laws.marks_are_written_in_their_row.Goals as goal

pub returns : goal.returns
returns c = marks_written
