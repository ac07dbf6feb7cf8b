use Rattle.std.proofs.Common.{◌≡◌, flat_map, take}
use Rattle.devdry_links.specs.Places.{drop_in_places_of}
use Rattle.devdry_links.proofs.places.drop_in_places.Given as goal

-- the folders so far are those of the files so far
abbrev pub invariant-loop-file : goal.invariant-loop-file
invariant-loop-file l = l.places.items ≡ flat_map (drop_in_places_of l.root) (take l.file-index l.files)
