use Rattle.eval_laws.proofs.TextWords.{joined_by_underscores, underscored_whole}
use Rattle.eval_laws.proofs.words.words_are_joined_by_underscores.Goals as goal

pub returns-clause-joined : goal.returns-clause-joined
returns-clause-joined c = joined_by_underscores

pub returns-clause-whole : goal.returns-clause-whole
returns-clause-whole c = underscored_whole
