use Rattle.std.proofs.Common.{◌≡◌, take, map, string_bytes}
use Rattle.text_tables.specs.Tallies.{Tallies}
use Rattle.engine_formats.specs.Diagnostics.{shown}
use Rattle.engine_formats.specs.Fingerprints.{fingerprinted, shown_given}
use Rattle.engine_formats.proofs.fingerprints.with_fingerprints_by.Given as goal

abbrev pub invariant-loop-index : goal.invariant-loop-index
invariant-loop-index l = record {
  counts : Tallies l.tally (map string_bytes (take l.index l.marks));
  so_far : map shown_given l.given.items ≡ fingerprinted (map shown (take l.index l.diagnostics));
}
