use Rattle.std.proofs.Common.{◌≡◌, flat_map, map, take}
use Rattle.file_catalogue.specs.Ignored.{codes_named}
use Rattle.file_catalogue.proofs.ignored.codes_named_by.Given as goal

abbrev pub invariant-loop-part : goal.invariant-loop-part
invariant-loop-part l = map (λ c. c.now) l.named.items ≡ flat_map codes_named (map (λ p. p.now) (take l.part-index l.parts))
