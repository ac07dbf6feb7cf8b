use Rattle.std.proofs.Common.{◌≡◌, drop}
use Rattle.devdry_links.specs.Unseen.{has_no_break, has_no_break_after}
use Rattle.devdry_links.proofs.unseen.has_no_break.Given as goal

abbrev pub invariant-loop-byte : goal.invariant-loop-byte
invariant-loop-byte l = has_no_break_after l.before (drop l.byte-index l.text) ≡ has_no_break l.text
