use Rattle.std.proofs.Common.{refl}
use Rattle.example_laws.proofs.Computing.{computed}
use Rattle.example_laws.proofs.events.lines_of_rules_are_joined_and_comments_are_skipped.Goals as goal

pub returns : goal.returns
unfolding computed
returns c = record { joined = refl; left_out = refl }
