use Rattle.std.proofs.Common.{refl}
use Rattle.example_laws.proofs.Speaking.{spoken}
use Rattle.example_laws.proofs.sessions.documents_are_marked_when_they_are_opened_and_changed.Goals as goal

pub returns : goal.returns
unfolding spoken
returns c = refl
