use Rattle.std.proofs.Common.{map}
use Rattle.std.specs.Cow.{cow_slice_items}
use Rattle.text_tables.proofs.Flags.{more_flagged, set_flagged}
use Rattle.text_tables.proofs.Held.{seen, set}
use Rattle.text_tables.proofs.cow_pairs.CowPairs.put.Goals as goal

pub invariant_of-self : goal.invariant_of-self
invariant_of-self c =
    rw (c.mark.ensures, c.in_err-insert.ensures.err)
    (more_flagged c.self.inside.flags (map (seen cow_slice_items cow_slice_items) c.self.inside.held.entries) c.as_slice.result.now c.self.invariant)

pub invariant_of-self-2 : goal.invariant_of-self-2
invariant_of-self-2 c =
    rw (c.mark.ensures, c.as_slice.ensures.value, c.in_ok-insert.ensures.entries, set cow_slice_items cow_slice_items c.self.inside.held.entries _ _)
    (set_flagged c.self.inside.flags (map (seen cow_slice_items cow_slice_items) c.self.inside.held.entries) c.in_ok-name.name.items c.into_vec.result.items c.self.invariant)

pub returns-clause-pairs : goal.returns-clause-pairs
returns-clause-pairs c =
    rw (c.in_ok-insert.ensures.entries, ← c.self.view_is, ← c.in_ok-name.ensures.items, ← c.into_vec.ensures)
    (set cow_slice_items cow_slice_items c.self.inside.held.entries _ _)
