use Rattle.std.proofs.Common.{◌≡◌, false, length}
use Rattle.engine_formats.specs.Meant.{unknown_after}
use Rattle.engine_formats.proofs.meant.unknown_name.Given as goal

abbrev pub invariant-loop-byte : goal.invariant-loop-byte
invariant-loop-byte l = unknown_after l.sign l.rest ≡ unknown_after false l.text

abbrev pub decreases-loop-byte : goal.decreases-loop-byte
decreases-loop-byte l = length l.rest
