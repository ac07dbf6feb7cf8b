use Rattle.std.proofs.Common.{rules}
use Rattle.text_tables.proofs.Heads.{head_of_long, head_of_short}
use Rattle.text_tables.proofs.headed_names.head_of.Goals as goal

pub returns-then-len-ge8 : goal.returns-then-len-ge8
returns-then-len-ge8 c = rw (c.four_at.ensures.value, c.four_at-then-len-ge8.ensures.value) (head_of_long c.args.name.now (search rules))

pub returns-then-len-ge4 : goal.returns-then-len-ge4
returns-then-len-ge4 c =
    rw (c.four_at-then-len-ge4.ensures.value, c.four_at-then-len-ge4-2.ensures.value)
    (head_of_short c.args.name.now (search rules) (search rules) (search rules))
