use Rattle.eval_laws.proofs.TextWords.{end_from_word, word_is}
use Rattle.eval_laws.proofs.words.a_number_names_a_word.Goals as goal

pub returns-clause-word : goal.returns-clause-word
returns-clause-word c = word_is

pub returns-clause-end : goal.returns-clause-end
returns-clause-end c = end_from_word
