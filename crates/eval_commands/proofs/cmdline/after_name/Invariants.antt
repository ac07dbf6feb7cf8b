use Rattle.std.proofs.Common.{◌≡◌, length}
use Rattle.eval_commands.specs.Cmdline.{after_name}
use Rattle.eval_commands.proofs.cmdline.after_name.Given as goal

abbrev pub invariant-loop-byte : goal.invariant-loop-byte
invariant-loop-byte l = after_name l.left l.rest ≡ after_name l.fn.name l.fn.word

abbrev pub decreases-loop-byte : goal.decreases-loop-byte
decreases-loop-byte l = length l.left
