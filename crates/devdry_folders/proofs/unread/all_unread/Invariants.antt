use Rattle.std.proofs.Common.{◌≡◌, flat_map, take}
use Rattle.devdry_folders.specs.Unread.{lines_on_scan}
use Rattle.devdry_folders.proofs.unread.all_unread.Given as goal

abbrev pub invariant-loop-visit : goal.invariant-loop-visit
invariant-loop-visit l = l.lines.items ≡ flat_map (λ v. lines_on_scan l.for_people v.path v.scan) (take l.visit-index l.visit-items)
