use Rattle.std.proofs.Common.{refl}
use Rattle.example_laws.proofs.Speaking.{spoken}
use Rattle.example_laws.proofs.sessions.questions_about_a_document_are_answered.Goals as goal

pub returns : goal.returns
unfolding spoken
returns c = refl
