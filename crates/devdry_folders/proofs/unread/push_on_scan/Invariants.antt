use Rattle.std.proofs.Common.{◌≡◌, ◌++◌, take}
use Rattle.devdry_folders.specs.Unread.{sights_said}
use Rattle.devdry_folders.proofs.unread.push_on_scan.Given as goal

abbrev pub invariant-loop-sight : goal.invariant-loop-sight
invariant-loop-sight l = l.lines.items ≡ l.initial.lines.items ++ sights_said l.for_people (take l.sight-index l.sight-items)
