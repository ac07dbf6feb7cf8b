use Rattle.std.proofs.Common.{◌≡◌, ◌++◌, drop, flat_map}
use Rattle.link_files.specs.Files.{listed_byte, listed_path}
use Rattle.link_files.proofs.files.list_path.Given as goal

abbrev pub invariant-loop-byte : goal.invariant-loop-byte
invariant-loop-byte l =
    l.text.items ++ flat_map listed_byte (drop l.byte-index l.byte-items) ≡ l.fn.text.items ++ listed_path l.file
