use Rattle.std.proofs.Common.{refl}
use Rattle.engine_answers.specs.JsonAnswers.{answer_members}
use Rattle.engine_answers.specs.Members.{item_members, label_value, node_members, note_value, run_value}
use Rattle.engine_answers.proofs.laws.an_empty_answer_has_its_arrays_and_objects.Goals as goal

pub returns : goal.returns
unfolding answer_members item_members node_members label_value note_value run_value
returns c event none = rw none refl
