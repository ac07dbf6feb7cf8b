use Rattle.builtin_input.proofs.WordLaws.{one_word, last_word}
use Rattle.builtin_input.proofs.laws.the_last_word_is_the_lowest.Goals as goal

pub returns-clause-one : goal.returns-clause-one
returns-clause-one c = one_word

pub returns-clause-more : goal.returns-clause-more
returns-clause-more c = last_word
