use Rattle.std.proofs.Common.{◌<◌, ◌≤◌, length, arith, ◌∙◌}
use Rattle.std.proofs.lemmas.Option.{get_or_from_slice_get, slice_get_within}
use Rattle.text_core.specs.Elements.{symbol_len}
use Rattle.text_core.proofs.Reaching.{symbol_len-fits}
use Rattle.text_core.proofs.symbols.symbol_len.Goals as goal

pub returns-in-Some-clause-value : goal.returns-in-Some-clause-value
returns-in-Some-clause-value c =
    c.in-Some.ensures.lookup.1 ∙ get_or_from_slice_get c.args.lens.now (length c.args.text.now) (symbol_len c.args.text.now) c.in-Some.len.now (c.requires 0)

pub returns-in-Some-clause-within : goal.returns-in-Some-clause-within
returns-in-Some-clause-within c =
    symbol_len-fits c.args.text.now c.in-Some.len.now
    (c.in-Some.ensures.lookup.1 ∙ get_or_from_slice_get c.args.lens.now (length c.args.text.now) (symbol_len c.args.text.now) c.in-Some.len.now (c.requires 0))

pub returns-in-None-clause-value : goal.returns-in-None-clause-value
returns-in-None-clause-value c =
    let past : length c.args.lens.now ≤ length c.args.text.now = c.in-None.ensures.lookup.3 in
    let within : length c.args.text.now < length c.args.lens.now = slice_get_within c.args.lens.now (length c.args.text.now) (symbol_len c.args.text.now) (c.requires 0) in
    absurd (omega arith)
