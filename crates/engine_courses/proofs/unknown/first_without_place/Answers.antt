use Rattle.std.proofs.Common.{not, rules, tests, ◌∙◌}
use Rattle.std.proofs.lemmas.Iterator.{YieldsList-from_slice}
use Rattle.std.proofs.lemmas.Iterator.Search.{find_from_yields_List}
use Rattle.engine_courses.specs.Asked.{is_known}
use Rattle.engine_courses.proofs.Known.{found_map}
use Rattle.engine_courses.proofs.unknown.first_without_place.Goals as goal

pub returns : goal.returns
returns c =
    found_map (λ text. not (is_known c.args.places.now text)) (λ t. t.now) c.args.why.now c.copied.result
    (c.copied.ensures
    ∙ find_from_yields_List (λ t. not (is_known c.args.places.now t.now)) _ _ c.find.result c.find.ensures.ran (YieldsList-from_slice c.args.why.now c.iter.ensures.rest) (λ x b q k. search (rules, tests)))
