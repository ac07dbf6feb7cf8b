use Rattle.std.proofs.Common.{◌≡◌, drop, fold}
use Rattle.eval_commands.specs.UdevHwdb.{nothing_given, took}
use Rattle.eval_commands.proofs.udev_hwdb.udev_hwdb_of.Given as goal

abbrev pub invariant-loop-word : goal.invariant-loop-word
invariant-loop-word l = fold took l.given (drop l.word-index l.words) ≡ fold took nothing_given l.fn.words
