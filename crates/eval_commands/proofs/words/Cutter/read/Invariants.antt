use Rattle.std.proofs.Common.{◌≡◌, drop, fold}
use Rattle.eval_commands.specs.Words.{unread_command, took}
use Rattle.eval_commands.proofs.words.Cutter.read.Given as goal

abbrev pub invariant-loop-byte : goal.invariant-loop-byte
invariant-loop-byte l = fold (took l.profile) l.cutter (drop l.byte-index l.text) ≡ fold (took l.fn.profile) unread_command l.fn.text
