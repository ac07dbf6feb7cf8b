use Rattle.std.proofs.Common.{map}
use Rattle.std.specs.Cow.{cow_slice_items}
use Rattle.text_tables.proofs.Flags.{all_flagged}
use Rattle.text_tables.proofs.cow_pairs.CowPairs.from_map.Goals as goal

pub invariant_of-result : goal.invariant_of-result
invariant_of-result c = rw (c.flags_of-flags.ensures) (all_flagged (map (λ e. (cow_slice_items e.0, cow_slice_items e.1)) c.args.held.entries))
