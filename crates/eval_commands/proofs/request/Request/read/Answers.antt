use Rattle.std.proofs.Common.{◌∙◌}
use Rattle.eval_commands.specs.Unquoted.{spaced_words}
use Rattle.eval_commands.proofs.Requests.{at_end, next_none, next_some}
use Rattle.eval_commands.proofs.request.Request.read.Goals as goal

pub returns-in_err-request : goal.returns-in_err-request
returns-in_err-request c =
    c.from_residual.ensures
    ∙ next_none c.loop-word.request c.in-Some.word.now (spaced_words c.in-Some.after.now) (spaced_words c.loop-word.rest.now) c.in-Some.ensures.value c.in_err-request.ensures
    ∙ c.loop-word.invariant

pub loop-word-preserved : goal.loop-word-preserved
loop-word-preserved c =
    next_some c.loop-word.request c.in_ok-request.request c.in-Some.word.now (spaced_words c.in-Some.after.now) (spaced_words c.loop-word.rest.now) c.in-Some.ensures.value c.in_ok-request.ensures
    ∙ c.loop-word.invariant

pub returns : goal.returns
returns c = at_end c.loop-word.request (spaced_words c.loop-word.rest.now) c.in_default.ensures.value ∙ c.loop-word.invariant
