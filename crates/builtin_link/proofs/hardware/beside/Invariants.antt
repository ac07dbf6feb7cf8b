use Rattle.std.proofs.Common.{◌≡◌, drop, map}
use Rattle.builtin_link.specs.Hardware.{beside}
use Rattle.builtin_link.proofs.hardware.beside.Given as goal

abbrev pub invariant-loop-row : goal.invariant-loop-row
invariant-loop-row l =
    beside (map (λ row. (row.0, row.1.now)) (drop l.row-index l.rows)) l.number ≡ beside (map (λ row. (row.0, row.1.now)) l.rows) l.number
