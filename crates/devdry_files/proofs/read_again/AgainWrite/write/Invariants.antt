use Rattle.std.specs.Io.KnownBytes.{Keeps}
use Rattle.devdry_files.proofs.read_again.AgainWrite.write.Given as goal

-- what was interrupted took no bytes
abbrev pub invariant-loop : goal.invariant-loop
invariant-loop g l = Keeps (g.W.Write.contents l.initial.self.stream) (g.W.Write.contents l.self.stream)
