use Rattle.std.proofs.Common.{refl}
use Rattle.example_laws.proofs.Computing.{computed}
use Rattle.example_laws.proofs.events.an_event_begins_with_what_its_block_says.Goals as goal

pub returns : goal.returns
unfolding computed
returns c = record { whole = refl; least = refl }
