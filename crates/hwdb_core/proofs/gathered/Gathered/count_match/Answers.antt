use Rattle.std.proofs.Common.{[], subst}
use Rattle.hwdb_core.specs.Found.{Held, IsKept, onto}
use Rattle.hwdb_core.proofs.Joining.{found_as, held_as}
use Rattle.hwdb_core.proofs.Keeping.{match_counted_as, too_many_match_bytes}
use Rattle.hwdb_core.proofs.gathered.Gathered.count_match.Goals as goal

pub returns-then-len-self : goal.returns-then-len-self
returns-then-len-self c =
    subst (λ (h : Held). IsKept (onto h (found_as [] [] c.args.len)) → ⊥) c.self.view_is
    (too_many_match_bytes (held_as c.self.inside.wanted c.self.inside.entries.items c.self.inside.count c.self.inside.match_bytes c.self.inside.text_bytes c.self.inside.messages.items) c.args.len
    c.self.invariant.1 c.if-len-self.true)

pub returns : goal.returns
returns c =
    match_counted_as (held_as c.self.inside.wanted c.self.inside.entries.items c.self.inside.count c.self.inside.match_bytes c.self.inside.text_bytes c.self.inside.messages.items) c.args.self.now c.args.len c.self.view_is
