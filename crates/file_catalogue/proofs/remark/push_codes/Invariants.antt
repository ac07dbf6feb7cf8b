use Rattle.std.proofs.Common.{◌≡◌, ◌++◌, map, take}
use Rattle.file_catalogue.proofs.remark.push_codes.Given as goal

abbrev pub invariant-loop-row : goal.invariant-loop-row
invariant-loop-row l = map (λ code. code.now) l.all.items ≡ map (λ code. code.now) l.initial.all.items ++ map (λ row. row.1.now) (take l.row-index l.rows)
