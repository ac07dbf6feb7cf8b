use Rattle.device_core.proofs.Noting.{none_by_the_manual}
use Rattle.device_core.proofs.note_laws.nothing_about_a_block_is_noted_by_the_manual.Goals as goal

pub returns : goal.returns
returns c = none_by_the_manual
