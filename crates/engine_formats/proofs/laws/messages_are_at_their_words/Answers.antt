use Rattle.engine_formats.proofs.Placement.{places_kept, words_kept}
use Rattle.engine_formats.proofs.laws.messages_are_at_their_words.Goals as goal

pub returns-clause-word : goal.returns-clause-word
returns-clause-word c file few = words_kept file few

pub returns-clause-place : goal.returns-clause-place
returns-clause-place c file few short = places_kept file few short
