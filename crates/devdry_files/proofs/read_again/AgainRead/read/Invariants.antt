use Rattle.std.proofs.Common.{◌≡◌, length}
use Rattle.std.specs.Io.KnownBytes.{Keeps}
use Rattle.devdry_files.proofs.read_again.AgainRead.read.Given as goal

-- the room for the bytes stays as long as it is, and what was interrupted gave none
abbrev pub invariant-loop : goal.invariant-loop
invariant-loop g l = (length l.into ≡ length l.initial.into) × Keeps (g.R.Read.remaining l.initial.self.stream) (g.R.Read.remaining l.self.stream)
