use Rattle.std.proofs.Common.{lit<, not, rules, tests}
use Rattle.std.proofs.lemmas.Iterator.Search.{find_from_yields_List}
use Rattle.std.proofs.lemmas.Iterator.Splits.{YieldsList-from_str_split}
use Rattle.file_catalogue.specs.Ignored.{is_ignorable}
use Rattle.file_catalogue.proofs.ignored.unknown_in.Goals as goal

pub returns : goal.returns
returns c =
    find_from_yields_List (λ part. not (is_ignorable part)) _ _ c.find.result c.find.ensures.ran
    (YieldsList-from_str_split 44 c.args.text.now (lit< tt) c.split.ensures.text c.split.ensures.has_more c.split.ensures.pattern) (λ x b q k. search (rules, tests))
