use Rattle.std.proofs.Common.{◌≡◌, flat_map, map, take}
use Rattle.file_catalogue.specs.Ignored.{cut_at_commas}
use Rattle.file_catalogue.proofs.ignored.cut_each_at_commas.Given as goal

abbrev pub invariant-loop-text : goal.invariant-loop-text
invariant-loop-text l = map (λ p. p.now) l.parts.items ≡ flat_map cut_at_commas (map (λ t. t.now) (take l.text-index l.texts))
