use Rattle.std.proofs.Common.{◌≡◌, ◌++◌}
use Rattle.link_files.specs.Joined.{joined_after, joined_lines}
use Rattle.link_files.proofs.joined.joined_lines.Given as goal

abbrev pub invariant-loop-line : goal.invariant-loop-line
invariant-loop-line l = l.joining.done.items ++ joined_after l.joining.held l.line-iterator ≡ joined_lines l.bytes
