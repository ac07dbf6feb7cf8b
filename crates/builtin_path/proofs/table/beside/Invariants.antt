use Rattle.std.proofs.Common.{◌≡◌, drop, map}
use Rattle.builtin_path.specs.Table.{beside}
use Rattle.builtin_path.proofs.table.beside.Given as goal

abbrev pub invariant-loop-row : goal.invariant-loop-row
invariant-loop-row l =
    beside (map (λ row. (row.0.now, row.1)) (drop l.row-index l.rows)) l.subsystem
    ≡ beside (map (λ row. (row.0.now, row.1)) l.rows) l.subsystem
