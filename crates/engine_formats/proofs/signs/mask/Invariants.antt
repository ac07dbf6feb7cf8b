use Rattle.std.proofs.Common.{◌≡◌, ◌++◌, drop, take}
use Rattle.engine_formats.specs.Masked.{masked, masked_after}
use Rattle.engine_formats.proofs.signs.mask.Given as goal

abbrev pub invariant-loop-byte : goal.invariant-loop-byte
invariant-loop-byte l = take l.byte-index l.text ++ masked_after l.before l.last (drop l.byte-index l.text) ≡ masked l.initial.text
