use Rattle.std.proofs.Common.{arith}
use Rattle.eval_laws.proofs.weight.an_import_leaves_a_second_note_for_udev_alone.Goals as goal

pub returns : goal.returns
returns c = record { manual = λ len entries r from. omega arith; udev = λ len entries r from. omega arith }
