use Rattle.std.proofs.Common.{refl}
use Rattle.example_laws.proofs.Computing.{computed}
use Rattle.example_laws.proofs.acts.the_keys_of_a_rule_are_taken_by_kind_in_whatever_order_they_are_written.Goals as goal

pub returns : goal.returns
unfolding computed
returns c = record { whole = refl; result = refl; program = refl; test = refl }
