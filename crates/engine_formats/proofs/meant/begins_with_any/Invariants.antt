use Rattle.std.proofs.Common.{◌≡◌, drop, map, nat_eq}
use Rattle.std.specs.List.{list_any, starts_with}
use Rattle.engine_formats.proofs.meant.begins_with_any.Given as goal

abbrev pub invariant-loop-name : goal.invariant-loop-name
invariant-loop-name l =
    list_any (λ name. starts_with nat_eq l.text name) (map (λ name. name.now) (drop l.name-index l.names))
    ≡ list_any (λ name. starts_with nat_eq l.text name) (map (λ name. name.now) l.names)
