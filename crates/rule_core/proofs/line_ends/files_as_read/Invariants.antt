use Rattle.std.proofs.Common.{◌≡◌, map}
use Rattle.rule_core.specs.Ends.{file_as_read}
use Rattle.rule_core.proofs.line_ends.files_as_read.Given as goal

abbrev pub invariant-loop-file : goal.invariant-loop-file
invariant-loop-file l = l.read.items ≡ map (file_as_read l.profile) l.yielded
