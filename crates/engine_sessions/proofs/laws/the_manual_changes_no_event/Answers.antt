use Rattle.engine_sessions.proofs.Manual.{manual_block, same_input}
use Rattle.engine_sessions.proofs.laws.the_manual_changes_no_event.Goals as goal

pub returns : goal.returns
returns c = record { events = manual_block; answers = same_input }
