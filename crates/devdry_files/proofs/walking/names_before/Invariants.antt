use Rattle.std.proofs.Common.{◌≡◌, ◌++◌, deque_len}
use Rattle.devdry_files.proofs.walking.names_before.Given as goal

-- all names are those so far and those that follow
abbrev pub invariant-loop-name : goal.invariant-loop-name
invariant-loop-name l = l.names.items ++ l.following.items ≡ l.initial.names.items ++ l.initial.following.items

abbrev pub decreases-loop-name : goal.decreases-loop-name
decreases-loop-name l = deque_len l.following
