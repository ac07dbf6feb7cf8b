use Rattle.eval_laws.proofs.TextWords.{words_are, words_found}
use Rattle.eval_laws.proofs.words.a_text_has_its_words.Goals as goal

pub returns : goal.returns
returns c = λ text found. (words_found text found, words_are text found)
