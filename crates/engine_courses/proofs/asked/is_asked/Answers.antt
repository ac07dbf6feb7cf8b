use Rattle.std.proofs.Common.{rules, tests}
use Rattle.std.proofs.lemmas.Iterator.{YieldsList-from_slice}
use Rattle.std.proofs.lemmas.Iterator.Search.{any_from_yields_List}
use Rattle.engine_courses.specs.Asked.{asks}
use Rattle.engine_courses.proofs.Known.{any_map}
use Rattle.engine_courses.proofs.asked.is_asked.Goals as goal

pub returns : goal.returns
returns c =
    any_map (λ text. asks text (c.args.file.now, c.args.line)) (λ t. t.now) c.args.why.now c.any.result
    (any_from_yields_List (λ t. asks t.now (c.args.file.now, c.args.line)) _ _ _ c.any.ensures.ran (YieldsList-from_slice c.args.why.now c.iter.ensures.rest) (λ x b q k. search (rules, tests)))
