use Rattle.lsp_words.proofs.Found.{all_found}
use Rattle.lsp_words.proofs.laws.each_word_has_its_own_text.Goals as goal

pub returns : goal.returns
returns c = all_found c.args.kind
