use Rattle.std.proofs.Common.{◌≡◌, ◌++◌, map, drop}
use Rattle.builtin_usb.specs.Identities.{named}
use Rattle.builtin_usb.proofs.properties.set_rows.Given as goal

abbrev pub invariant-loop-name : goal.invariant-loop-name
invariant-loop-name l =
    l.properties.items ++ named l.prefix (map (λ row. (row.0.now, row.1)) (drop l.name-index l.rows))
    ≡ l.initial.properties.items ++ named l.prefix (map (λ row. (row.0.now, row.1)) l.rows)
