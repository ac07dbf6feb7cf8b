use Rattle.device_core.proofs.Noting.{in_order}
use Rattle.device_core.proofs.note_laws.notes_about_a_block_are_in_order.Goals as goal

pub returns : goal.returns
returns c = in_order
