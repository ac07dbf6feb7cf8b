use Rattle.std.proofs.Common.{◌≡◌, length}
use Rattle.rule_lints.specs.Commands.{has_shell_sign, has_sign_after}
use Rattle.rule_lints.proofs.commands.has_shell_sign.Given as goal

abbrev pub invariant-loop-byte : goal.invariant-loop-byte
invariant-loop-byte l = has_sign_after l.opened l.rest ≡ has_shell_sign l.command

abbrev pub decreases-loop-byte : goal.decreases-loop-byte
decreases-loop-byte l = length l.rest
