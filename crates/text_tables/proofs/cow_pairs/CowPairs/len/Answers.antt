use Rattle.std.specs.Cow.{cow_slice_items}
use Rattle.text_tables.proofs.Held.{names_once}
use Rattle.text_tables.proofs.cow_pairs.CowPairs.len.Goals as goal

pub returns-clause-once : goal.returns-clause-once
returns-clause-once c = rw (← c.self.view_is) (names_once cow_slice_items cow_slice_items c.self.inside.held.entries c.len.ensures.unique)
