use Rattle.std.proofs.Common.{◌≡◌, ◌++◌, flat_map, take}
use Rattle.devdry_links.specs.Notes.{unseen_among}
use Rattle.devdry_links.proofs.notes.push_unseen_of.Given as goal

abbrev pub invariant-loop-file : goal.invariant-loop-file
invariant-loop-file l = l.notes.items ≡ l.initial.notes.items ++ flat_map (unseen_among l.line.profile l.files) (take l.file-index l.files)
