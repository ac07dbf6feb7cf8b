use Rattle.std.proofs.Common.{◌≡◌, ◌-◌, suc, length, drop}
use Rattle.text_core.proofs.Closing.{are_closed}
use Rattle.text_core.proofs.Tables.{Reports}
use Rattle.text_core.proofs.closings.closed_ends.Given as goal

abbrev pub invariant-loop-left : goal.invariant-loop-left
invariant-loop-left l = record {
  reported : Reports (are_closed l.reading) l.closed.items (drop (length l.text - l.left) l.text);
  len : length l.closed.items ≡ suc l.left;
}
