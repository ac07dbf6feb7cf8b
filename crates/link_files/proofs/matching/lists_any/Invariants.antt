use Rattle.std.proofs.Common.{◌≡◌, drop, map}
use Rattle.link_files.specs.Matching.{lists_any}
use Rattle.link_files.proofs.matching.lists_any.Given as goal

abbrev pub invariant-loop-row : goal.invariant-loop-row
invariant-loop-row l =
    lists_any (map (λ row. (row.0, row.1.now)) (drop l.row-index l.keys)) l.settings ≡ lists_any (map (λ row. (row.0, row.1.now)) l.keys) l.settings
