use Rattle.std.proofs.Common.{rules}
use Rattle.std.proofs.lemmas.Iterator.{YieldsList-from_map, items_from_collect}
use Rattle.std.proofs.lemmas.Iterator.Consumers.{YieldsList-at}
use Rattle.std.proofs.lemmas.Iterator.Splits.{YieldsList-from_slice_split}
use Rattle.builtin_input.specs.Bitmaps.{is_space, word}
use Rattle.builtin_input.proofs.bitmaps.words.Goals as goal

pub returns : goal.returns
returns c =
    items_from_collect _ c.collect.ensures.ran
    (YieldsList-from_map _ word
    (YieldsList-at c.map.ensures.source
    (YieldsList-from_slice_split _ is_space c.args.text.now c.split.ensures.rest c.split.ensures.done c.split.ensures.closure (λ x r q k. search rules)))
    c.map.ensures.closure (λ x r q k. search rules))
