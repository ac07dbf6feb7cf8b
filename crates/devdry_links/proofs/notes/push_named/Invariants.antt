use Rattle.std.proofs.Common.{◌≡◌, ◌++◌, flat_map, map, take}
use Rattle.devdry_links.specs.Notes.{kind_note}
use Rattle.devdry_links.proofs.notes.push_named.Given as goal

abbrev pub invariant-loop-path : goal.invariant-loop-path
invariant-loop-path l = l.notes.items ≡ l.initial.notes.items ++ flat_map (kind_note l.kind) (map (λ f. f.now) (take l.path-index l.paths))
