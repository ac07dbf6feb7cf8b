use Rattle.std.proofs.Common.{◌≡◌, map, drop}
use Rattle.builtin_usb.specs.Kinds.{kind_beside}
use Rattle.builtin_usb.proofs.kinds.kind_beside.Given as goal

abbrev pub invariant-loop-row : goal.invariant-loop-row
invariant-loop-row l =
    kind_beside (map (λ row. (row.0, row.1.now)) (drop l.row-index l.rows)) l.number
    ≡ kind_beside (map (λ row. (row.0, row.1.now)) l.rows) l.number
