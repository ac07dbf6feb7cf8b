use Rattle.std.proofs.Common.{◌≡◌, drop, map, nat_le}
use Rattle.std.specs.List.{find}
use Rattle.engine_formats.specs.Near.{distance}
use Rattle.engine_formats.proofs.near.first_within.Given as goal

abbrev pub invariant-loop-name : goal.invariant-loop-name
invariant-loop-name l =
    find (λ name. nat_le (distance name l.word) l.most) (map (λ name. name.now) (drop l.name-index l.names))
    ≡ find (λ name. nat_le (distance name l.word) l.most) (map (λ name. name.now) l.names)
