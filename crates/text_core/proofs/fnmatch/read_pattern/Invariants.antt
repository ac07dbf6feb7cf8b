use Rattle.std.proofs.Common.{◌≡◌, ◌++◌, length}
use Rattle.text_core.specs.Fnmatch.{fnmatch_items}
use Rattle.text_core.specs.Elements.{symbol_len}
use Rattle.text_core.proofs.Closing.{are_closed}
use Rattle.text_core.proofs.Tables.{Reports}
use Rattle.text_core.proofs.fnmatch.read_pattern.Given as goal

abbrev pub invariant-loop-byte : goal.invariant-loop-byte
invariant-loop-byte l = record {
  read : l.items.items ++ fnmatch_items l.reading l.rest 0 ≡ fnmatch_items l.reading l.text 0;
  symbols : Reports symbol_len l.lens.items l.rest;
  closings : Reports (are_closed l.reading) l.closed.items l.rest;
}

abbrev pub decreases-loop-byte : goal.decreases-loop-byte
decreases-loop-byte l = length l.rest
