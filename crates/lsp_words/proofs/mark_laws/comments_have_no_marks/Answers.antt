use Rattle.lsp_words.proofs.Written.{comment_unmarked}
use Rattle.lsp_words.proofs.mark_laws.comments_have_no_marks.Goals as goal

pub returns : goal.returns
returns c = comment_unmarked
