use Rattle.std.specs.Cow.{cow_slice_items}
use Rattle.std.proofs.Common.{ap, map, sym, ◌∙◌}
use Rattle.std.specs.Map.{lookup}
use Rattle.text_tables.proofs.Flags.{removed_flagged}
use Rattle.text_tables.proofs.Held.{is_text, removed_name, seen}
use Rattle.text_tables.proofs.cow_pairs.CowPairs.remove.Goals as goal

pub invariant_of-self : goal.invariant_of-self
invariant_of-self c =
    rw (c.shift_remove.ensures.entries, removed_name cow_slice_items cow_slice_items c.self.inside.held.entries c.args.name.now (ap (lookup (is_text cow_slice_items c.args.name.now)) (sym c.shift_remove.ensures.entries) ∙ c.shift_remove.ensures.updates.1))
    (removed_flagged c.self.inside.flags (map (seen cow_slice_items cow_slice_items) c.self.inside.held.entries) c.args.name.now c.self.invariant)

pub returns : goal.returns
returns c =
    rw (c.shift_remove.ensures.entries, ← c.self.view_is)
    (removed_name cow_slice_items cow_slice_items c.self.inside.held.entries c.args.name.now (ap (lookup (is_text cow_slice_items c.args.name.now)) (sym c.shift_remove.ensures.entries) ∙ c.shift_remove.ensures.updates.1))
