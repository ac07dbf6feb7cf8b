use Rattle.std.proofs.Common.{refl}
use Rattle.example_laws.proofs.Computing.{computed}
use Rattle.example_laws.proofs.links.an_interface_is_named_by_a_file_with_its_drop_ins.Goals as goal

pub returns : goal.returns
unfolding computed
returns c = record { policy = refl; name = refl }
