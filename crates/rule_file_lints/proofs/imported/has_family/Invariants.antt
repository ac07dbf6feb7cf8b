use Rattle.std.proofs.Common.{◌≡◌, drop, map}
use Rattle.rule_file_lints.specs.Imported.{has_family}
use Rattle.rule_file_lints.proofs.imported.has_family.Given as goal

abbrev pub invariant-loop-row : goal.invariant-loop-row
invariant-loop-row l = has_family l.names (map (λ row. (row.0.now, row.1.now)) (drop l.row-index l.rows)) l.name ≡ has_family l.names (map (λ row. (row.0.now, row.1.now)) l.rows) l.name
