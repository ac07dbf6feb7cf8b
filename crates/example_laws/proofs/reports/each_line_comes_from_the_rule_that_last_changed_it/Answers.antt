use Rattle.std.proofs.Common.{refl}
use Rattle.example_laws.proofs.Computing.{computed}
use Rattle.example_laws.proofs.reports.each_line_comes_from_the_rule_that_last_changed_it.Goals as goal

pub returns : goal.returns
unfolding computed
returns c = record { changed = refl; device = refl; lists = refl; commands = refl; made = refl }
