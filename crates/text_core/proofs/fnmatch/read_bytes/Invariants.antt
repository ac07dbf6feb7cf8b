use Rattle.std.proofs.Common.{◌≡◌, ◌++◌, map, drop}
use Rattle.text_core.specs.Spell.{itself}
use Rattle.text_core.proofs.fnmatch.read_bytes.Given as goal

abbrev pub invariant-loop-byte : goal.invariant-loop-byte
invariant-loop-byte l = l.items.items ++ map (itself l.reading) (drop l.byte-index l.text) ≡ map (itself l.reading) l.text
