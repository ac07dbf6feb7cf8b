use Rattle.std.proofs.Common.{◌≡◌, map, string_bytes, take}
use Rattle.devdry_files.proofs.walking.names_of.Given as goal

-- the texts so far are those of the names so far
abbrev pub invariant-loop-name : goal.invariant-loop-name
invariant-loop-name l = map string_bytes l.names.items ≡ map (λ n. n.now) (take l.name-index l.name-items)
