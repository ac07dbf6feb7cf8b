use Rattle.std.specs.Cow.{cow_slice_items}
use Rattle.text_tables.proofs.Held.{made_of}
use Rattle.text_tables.proofs.cow_pairs.CowPairs.get.Goals as goal

pub returns : goal.returns
returns c =
    rw (← c.self.view_is)
    (made_of cow_slice_items cow_slice_items c.self.inside.held.entries c.args.name.now c.get.result c.map.result (λ x y h. h.0) c.get.ensures.value c.map.ensures.cases)
