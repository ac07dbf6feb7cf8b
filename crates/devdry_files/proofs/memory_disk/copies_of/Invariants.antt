use Rattle.std.proofs.Common.{◌≡◌, map, take}
use Rattle.devdry_files.specs.Memory.{seen_entry, seen_in_memory}
use Rattle.devdry_files.proofs.memory_disk.copies_of.Given as goal

-- the copies so far are those of the entries so far
abbrev pub invariant-loop-entry : goal.invariant-loop-entry
invariant-loop-entry l = map seen_entry l.copies.items ≡ map seen_in_memory (take l.entry-index l.entries)
