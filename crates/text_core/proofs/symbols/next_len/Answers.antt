use Rattle.std.proofs.Common.{None, Some, sym, ◌∙◌}
use Rattle.text_core.proofs.Reaching.{symbol_len-empty, symbol_len-following, symbol_len-here}
use Rattle.text_core.proofs.symbols.next_len.Goals as goal

pub returns-then-is_ended : goal.returns-then-is_ended
returns-then-is_ended c = symbol_len-here c.args.text.now (sym c.is_ended.ensures.value ∙ c.if-is_ended.true)

pub returns-in_err-after : goal.returns-in_err-after
returns-in_err-after c = c.from_residual.ensures ∙ symbol_len-empty c.args.text.now c.in_err-after.ensures.cases

pub returns-in_err-len : goal.returns-in_err-len
returns-in_err-len c =
    c.from_residual-in_err-len.ensures
    ∙ symbol_len-following c.args.text.now c.in_ok-after.after.now c.in_ok-after.field-0-0.now None c.in_ok-after.ensures.cases.0
    (sym c.is_ended.ensures.value ∙ c.if-is_ended.false) c.in_err-len.ensures.value

pub returns : goal.returns
returns c =
    symbol_len-following c.args.text.now c.in_ok-after.after.now c.in_ok-after.field-0-0.now (Some c.in_ok-len.len) c.in_ok-after.ensures.cases.0
    (sym c.is_ended.ensures.value ∙ c.if-is_ended.false) c.in_ok-len.ensures.value
