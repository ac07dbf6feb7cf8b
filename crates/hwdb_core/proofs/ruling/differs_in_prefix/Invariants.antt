use Rattle.std.proofs.Common.{◌≡◌, drop}
use Rattle.hwdb_core.specs.Ruling.{differs_in_prefix}
use Rattle.hwdb_core.proofs.ruling.differs_in_prefix.Given as goal

abbrev pub invariant-loop-byte : goal.invariant-loop-byte
invariant-loop-byte l = differs_in_prefix (drop l.byte-index l.text) l.rest ≡ differs_in_prefix l.text l.modalias
