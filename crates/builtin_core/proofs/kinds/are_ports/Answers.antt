use Rattle.std.proofs.Common.{◌==◌, rules, tests}
use Rattle.std.proofs.lemmas.Iterator.Search.{all_from_yields_List}
use Rattle.std.proofs.lemmas.Iterator.Splits.{YieldsList-from_slice_split}
use Rattle.text_bytes.specs.Numbers.{is_decimal}
use Rattle.text_bytes.specs.Names.{dot}
use Rattle.builtin_core.proofs.kinds.are_ports.Goals as goal

pub returns : goal.returns
returns c =
    all_from_yields_List is_decimal _ _ _ c.all.ensures.ran
    (YieldsList-from_slice_split _ (λ b. b == dot) c.args.text.now c.split.ensures.rest c.split.ensures.done c.split.ensures.closure (λ x b q k. search (rules, tests)))
    (λ x b q k. search (rules, tests))
