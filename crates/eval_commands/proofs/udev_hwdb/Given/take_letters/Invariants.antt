use Rattle.std.proofs.Common.{◌≡◌, length}
use Rattle.eval_commands.specs.UdevHwdb.{letters_given}
use Rattle.eval_commands.proofs.udev_hwdb.Given.take_letters.Given as goal

abbrev pub invariant-loop-letter : goal.invariant-loop-letter
invariant-loop-letter l = letters_given l.left l.self ≡ letters_given l.fn.letters l.fn.self

abbrev pub decreases-loop-letter : goal.decreases-loop-letter
decreases-loop-letter l = length l.left
