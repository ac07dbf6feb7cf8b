use Rattle.std.proofs.Common.{rules, tests, codes, nat_eq}
use Rattle.std.proofs.lemmas.Iterator.Search.{any_from_yields_List}
use Rattle.std.proofs.lemmas.Iterator.Splits.{YieldsList-from_slice_split}
use Rattle.std.specs.List.{starts_with}
use Rattle.text_bytes.specs.Names.{is_blank}
use Rattle.rule_lints.proofs.names.has_dev.Goals as goal

pub returns : goal.returns
returns c =
    any_from_yields_List (λ link. starts_with nat_eq link (codes "/dev/")) _ _ _ c.any.ensures.ran
    (YieldsList-from_slice_split _ is_blank c.args.links.now c.split.ensures.rest c.split.ensures.done c.split.ensures.closure (λ x b q k. search (rules, tests)))
    (λ x b q k. search (rules, tests))
