use Rattle.std.proofs.Common.{◌≡◌, ◌-◌, ◌≤◌, length}
use Rattle.std.specs.List.{slice_split}
use Rattle.text_core.specs.Choices.{is_bar, parts_at}
use Rattle.text_core.proofs.Cutting.{with_parts}
use Rattle.text_core.proofs.choice.Choice.read_by.Given as goal

abbrev pub invariant-loop-place : goal.invariant-loop-place
invariant-loop-place l = record {
  read : with_parts l.parts.items (parts_at l.reading (slice_split is_bar l.rest) (length l.text - length l.rest)) ≡ parts_at l.reading (slice_split is_bar l.text) 0;
  rest : length l.rest ≤ length l.text;
}

abbrev pub decreases-loop-place : goal.decreases-loop-place
decreases-loop-place l = length l.rest
