use Rattle.std.proofs.Common.{◌≡◌, ◌++◌, map, take}
use Rattle.file_catalogue.proofs.remark.push_remarks.Given as goal

abbrev pub invariant-loop-row : goal.invariant-loop-row
invariant-loop-row l = l.all.items ≡ l.initial.all.items ++ map (λ row. row.0) (take l.row-index l.rows)
