use Rattle.std.proofs.Common.{◌≡◌, ◌++◌, flat_map, take}
use Rattle.devdry_links.specs.Visits.{lines_on_visit}
use Rattle.devdry_links.proofs.visits.push_unread_lines.Given as goal

abbrev pub invariant-loop-visit : goal.invariant-loop-visit
invariant-loop-visit l = l.lines.items ≡ l.initial.lines.items ++ flat_map lines_on_visit (take l.visit-index l.visits)
