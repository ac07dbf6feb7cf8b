use Rattle.std.proofs.Common.{◌≡◌, ◌++◌, drop, map, take}
use Rattle.devdry_gathering.specs.Said.{said_byte}
use Rattle.devdry_gathering.proofs.said.show_controls.Given as goal

abbrev pub invariant-loop-byte : goal.invariant-loop-byte
invariant-loop-byte l = l.text ≡ map said_byte (take l.byte-index l.initial.text) ++ drop l.byte-index l.initial.text
