use Rattle.std.proofs.Common.{◌≡◌, drop, map}
use Rattle.rule_lints.specs.Devices.{group_by_stem}
use Rattle.rule_lints.proofs.devices.group_by_stem.Given as goal

abbrev pub invariant-loop-row : goal.invariant-loop-row
invariant-loop-row l = group_by_stem (map (λ row. (row.0.now, row.1)) (drop l.row-index l.rows)) l.text ≡ group_by_stem (map (λ row. (row.0.now, row.1)) l.rows) l.text
