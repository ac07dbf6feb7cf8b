use Rattle.std.proofs.Common.{refl}
use Rattle.text_tables.specs.NameFlags.{with_flag}
use Rattle.text_tables.proofs.name_flags.NameFlags.mark.Goals as goal

pub returns : goal.returns
unfolding with_flag
returns c = rw (← c.self.view_is, ← c.number_of-number.ensures.value) refl
