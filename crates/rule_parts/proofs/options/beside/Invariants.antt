use Rattle.std.proofs.Common.{◌≡◌, map, drop}
use Rattle.rule_parts.specs.Options.{beside}
use Rattle.rule_parts.proofs.options.beside.Given as goal

abbrev pub invariant-loop-row : goal.invariant-loop-row
invariant-loop-row g l = beside (map (λ row. (row.0.now, row.1)) (drop l.row-index l.rows)) l.text ≡ beside (map (λ row. (row.0.now, row.1)) l.rows) l.text
