use Rattle.std.proofs.Common.{ℕ, map, string_bytes, suc, deque_len}
use Rattle.devdry_files.specs.Walks.{Leads, Way}
use Rattle.devdry_files.specs.declared.step.End.{End}
use Rattle.devdry_files.proofs.walking.walk.Given as goal

-- where the names ahead lead from here, all lead from the start
abbrev pub invariant-loop-name : goal.invariant-loop-name
invariant-loop-name g l = (links : ℕ) (end : End) (at : Way) → Leads (g.D.Disk.may_answer l.disk) l.root (suc links) (map string_bytes l.way.items) (map string_bytes l.ahead.items) end at
    → Leads (g.D.Disk.may_answer l.disk) l.root (suc links) (map string_bytes l.initial.way.items) (map string_bytes l.initial.ahead.items) end at

abbrev pub decreases-loop-name : goal.decreases-loop-name
decreases-loop-name g l = deque_len l.ahead
