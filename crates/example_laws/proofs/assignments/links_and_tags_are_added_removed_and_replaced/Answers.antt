use Rattle.std.proofs.Common.{refl}
use Rattle.example_laws.proofs.Computing.{computed}
use Rattle.example_laws.proofs.assignments.links_and_tags_are_added_removed_and_replaced.Goals as goal

pub returns : goal.returns
unfolding computed
returns c = record { added = refl; removed = refl; replaced = refl }
