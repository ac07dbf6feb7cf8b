use Rattle.std.proofs.Common.{◌≡◌, length}
use Rattle.eval_commands.specs.Unquoted.{no_request, request_from, spaced_words}
use Rattle.eval_commands.proofs.request.Request.read.Given as goal

abbrev pub invariant-loop-word : goal.invariant-loop-word
invariant-loop-word l = request_from l.request (spaced_words l.rest) ≡ request_from no_request (spaced_words l.fn.text)

abbrev pub decreases-loop-word : goal.decreases-loop-word
decreases-loop-word l = length l.rest
