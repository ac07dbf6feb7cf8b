use Rattle.std.proofs.Common.{◌≡◌, ◌≤◌, length}
use Rattle.eval_commands.specs.Unquoted.{spaced_words}
use Rattle.eval_commands.proofs.unquoted.cut_word.Given as goal

abbrev pub invariant-loop-byte : goal.invariant-loop-byte
invariant-loop-byte l = record {
  same : spaced_words l.rest ≡ spaced_words l.fn.text;
  within : length l.rest ≤ length l.fn.text;
}

abbrev pub decreases-loop-byte : goal.decreases-loop-byte
decreases-loop-byte l = length l.rest
