use Rattle.std.proofs.Common.{◌≡◌, ◌+◌, ◌-◌, ◌≤◌, length}
use Rattle.text_core.specs.Spell.{items_at}
use Rattle.text_core.proofs.Scanning.{with_items}
use Rattle.text_core.proofs.pattern.Pattern.read_at.Given as goal

abbrev pub invariant-loop-byte : goal.invariant-loop-byte
invariant-loop-byte l = record {
  read : with_items l.items.items (items_at l.reading l.rest 0 (l.at + (length l.text - length l.rest))) ≡ items_at l.reading l.text 0 l.at;
  rest : length l.rest ≤ length l.text;
}

abbrev pub decreases-loop-byte : goal.decreases-loop-byte
decreases-loop-byte l = length l.rest
