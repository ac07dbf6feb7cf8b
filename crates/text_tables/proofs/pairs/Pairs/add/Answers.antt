use Rattle.std.proofs.Common.{is_some, ap, ◌∙◌}
use Rattle.text_tables.proofs.Held.{has, new_is, set}
use Rattle.text_tables.proofs.pairs.Pairs.add.Goals as goal

pub returns-clause-new : goal.returns-clause-new
returns-clause-new c =
    rw (← c.in_ok-make_room.ensures, ← c.self.view_is)
    (new_is c.in_ok-before.before c.is_none.result _ c.is_none.ensures (ap is_some c.in_ok-before.ensures.old ∙ has (λ k. k.now) (λ v. v.now) c.self.inside.held.entries c.args.name.now))

pub returns-clause-pairs : goal.returns-clause-pairs
returns-clause-pairs c = rw (c.in_ok-before.ensures.entries, ← c.in_ok-make_room.ensures, ← c.self.view_is) (set (λ k. k.now) (λ v. v.now) c.self.inside.held.entries c.args.name c.args.value)
