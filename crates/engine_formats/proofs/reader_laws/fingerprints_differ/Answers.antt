use Rattle.std.proofs.Common.{[], arith}
use Rattle.engine_formats.proofs.Counts.{once_after}
use Rattle.engine_formats.proofs.reader_laws.fingerprints_differ.Goals as goal

pub returns : goal.returns
returns c diagnostics few = once_after [] diagnostics (omega arith)
