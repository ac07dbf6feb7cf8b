use Rattle.std.proofs.Common.{◌∙◌}
use Rattle.text_tables.proofs.Heads.{heads_decide}
use Rattle.text_tables.proofs.headed_names.HeadedName.compare.Goals as goal

pub returns-else-self-other : goal.returns-else-self-other
returns-else-self-other c =
    rw (← c.self.view_is, ← c.other.view_is)
    (c.cmp-else-self-other.ensures
    ∙ heads_decide c.self.inside.head c.other.inside.head c.self.inside.name.now c.other.inside.name.now c.self.invariant c.other.invariant c.if-self-other.false)
