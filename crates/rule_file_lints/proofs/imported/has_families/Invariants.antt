use Rattle.std.proofs.Common.{◌≡◌, drop, map}
use Rattle.rule_file_lints.specs.Imported.{families_in}
use Rattle.rule_file_lints.proofs.imported.has_families.Given as goal

abbrev pub invariant-loop-row : goal.invariant-loop-row
invariant-loop-row l = families_in (map (λ row. (row.0.now, row.1.now)) (drop l.row-index l.rows)) l.builtin ≡ families_in (map (λ row. (row.0.now, row.1.now)) l.rows) l.builtin
