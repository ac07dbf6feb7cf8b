use Rattle.std.proofs.Common.{refl}
use Rattle.engine_answers.specs.Members.{block_note_value}
use Rattle.engine_answers.proofs.laws.a_note_about_the_block_names_no_rule.Goals as goal

pub returns : goal.returns
unfolding block_note_value
returns c = record { value = refl; first = λ event about note one. rw one refl }
