use Rattle.std.proofs.Common.{◌≡◌, map, string_bytes, take}
use Rattle.devdry_files.specs.Walks.{place_in}
use Rattle.devdry_files.proofs.walking.place_in.Given as goal

-- the path so far is that of the names so far
abbrev pub invariant-loop-name : goal.invariant-loop-name
invariant-loop-name l = string_bytes l.path ≡ place_in l.root (map string_bytes (take l.name-index l.way))
