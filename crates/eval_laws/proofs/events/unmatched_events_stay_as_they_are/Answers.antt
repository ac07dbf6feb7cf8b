use Rattle.eval_state.specs.Scenes.{start}
use Rattle.eval_laws.proofs.Unmatched.{nothing_matches}
use Rattle.eval_laws.proofs.events.unmatched_events_stay_as_they_are.Goals as goal

pub returns : goal.returns
returns c = λ known rules event h. nothing_matches known rules (start event) h
