use Rattle.std.proofs.Common.{◌≡◌, ◌+◌, ℕ, map, string_bytes, suc}
use Rattle.devdry_files.specs.Walks.{Leads, LeadsOn, Way, max_links}
use Rattle.devdry_files.specs.declared.step.End.{End}
use Rattle.devdry_files.proofs.walking.lead.Given as goal

-- where the names ahead lead from here by the links that are left, all lead from the start
abbrev pub invariant-loop : goal.invariant-loop
invariant-loop g l = (left : ℕ) (end : End) (at : Way) → left + l.counter ≡ suc max_links
    → Leads (g.D.Disk.may_answer l.disk) l.root left (map string_bytes l.way.items) (map string_bytes l.ahead.items) end at
    → LeadsOn (g.D.Disk.may_answer l.disk) l.root (map string_bytes l.initial.way.items) (map string_bytes l.initial.ahead.items) end at
