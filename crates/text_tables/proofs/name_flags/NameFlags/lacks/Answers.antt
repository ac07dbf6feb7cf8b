use Rattle.std.proofs.Common.{◌/◌, ◌%◌, ap, nat_eq, get_or}
use Rattle.std.proofs.lemmas.Nat.Bits.{shr_and_one}
use Rattle.text_tables.specs.NameFlags.{is_unset}
use Rattle.text_tables.proofs.name_flags.NameFlags.lacks.Goals as goal

pub returns : goal.returns
unfolding is_unset
returns c =
    rw (← c.self.view_is, ← c.number_of-number.ensures.value)
    (ap (λ bit. nat_eq bit 0) (shr_and_one (get_or c.self.inside.words (c.number_of-number.result / 64) 0) (c.number_of-number.result % 64)))
