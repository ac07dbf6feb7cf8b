use Rattle.std.proofs.Common.{◌≡◌, List, Ok, map, string_bytes}
use Rattle.std.specs.Fs.{dir_entry_name}
use Rattle.devdry_files.proofs.real_system.names_of.Given as goal

-- no entry so far failed, and each gave its name
abbrev pub invariant-loop-found : goal.invariant-loop-found
invariant-loop-found g l = (found : List _) × (l.yielded ≡ map Ok found) × (map string_bytes l.names.items ≡ map dir_entry_name found)
