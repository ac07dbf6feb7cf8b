use Rattle.std.proofs.Common.{◌≡◌, map, string_bytes, take}
use Rattle.devdry_files.proofs.rooted_disk.copies_of.Given as goal

-- the copies so far are those of the names so far
abbrev pub invariant-loop-name : goal.invariant-loop-name
invariant-loop-name l = map string_bytes l.copies.items ≡ map string_bytes (take l.name-index l.way)
