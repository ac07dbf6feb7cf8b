use Rattle.std.proofs.Common.{◌≡◌, ◌++◌, filter, map, take}
use Rattle.file_catalogue.specs.Ignored.{is_of_class}
use Rattle.file_catalogue.proofs.ignored.push_class_among.Given as goal

abbrev pub invariant-loop-row : goal.invariant-loop-row
invariant-loop-row l = map (λ c. c.now) l.named.items
    ≡ map (λ c. c.now) l.initial.named.items ++ filter (is_of_class l.fn.part) (map (λ row. row.1.now) (take l.row-index l.rows))
