use Rattle.std.proofs.Common.{◌∙◌}
use Rattle.devdry_words.proofs.Taken.{asked_is, faultless, of_refused, of_taken}
use Rattle.devdry_words.proofs.options.options_in.Goals as goal

pub returns-in-Ok : goal.returns-in-Ok
returns-in-Ok c =
    c.named_options.ensures ∙ of_taken _ _ (faultless _ _ c.in_ok-command.ensures c.in-Ok.ensures.kinds) (asked_is _ _ _ c.in_ok-command.ensures c.in-Ok.ensures.matches)

pub returns : goal.returns
returns c = of_refused _ _ _ _ _ c.in_ok-command.ensures c.in-Err.ensures.kinds c.kind.ensures c.is_out_of_memory.ensures c.if-is_out_of_memory.false
