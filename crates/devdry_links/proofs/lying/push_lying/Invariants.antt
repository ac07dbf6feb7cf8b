use Rattle.std.proofs.Common.{◌≡◌, ◌++◌, flat_map, take}
use Rattle.devdry_links.specs.Lying.{lying_note}
use Rattle.devdry_links.proofs.lying.push_lying.Given as goal

abbrev pub invariant-loop-path : goal.invariant-loop-path
invariant-loop-path l = l.notes.items ≡ l.initial.notes.items ++ flat_map (lying_note l.line l.files) (take l.path-index l.paths)
