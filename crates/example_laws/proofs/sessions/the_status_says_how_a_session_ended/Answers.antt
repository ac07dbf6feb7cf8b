use Rattle.std.proofs.Common.{refl}
use Rattle.example_laws.proofs.Speaking.{spoken}
use Rattle.example_laws.proofs.sessions.the_status_says_how_a_session_ended.Goals as goal

pub returns : goal.returns
unfolding spoken
returns c = record { ends = refl; exits = refl }
