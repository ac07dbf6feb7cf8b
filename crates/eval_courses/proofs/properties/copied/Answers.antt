use Rattle.std.proofs.Common.{rules, ◌≡◌, [], ◌∙◌}
use Rattle.std.specs.Cow.{cow_slice_items}
use Rattle.text_tables.specs.Texts.{AreOnce}
use Rattle.text_tables.specs.Pairs.{names, with_values}
use Rattle.text_tables.proofs.Held.{names_once}
use Rattle.eval_courses.proofs.Copying.{set_anew}
use Rattle.eval_courses.proofs.properties.copied.Goals as goal

pub returns : goal.returns
returns c =
    let once : AreOnce (names c.args.properties.now) = rw (← c.as_map.ensures) (names_once cow_slice_items cow_slice_items c.as_map.result.now.entries c.iter-name-items.ensures.unique) in
    let copied : c.loop-name.copy ≡ with_values [] c.args.properties.now = search rules in
    copied ∙ set_anew c.args.properties.now once
