use Rattle.std.proofs.Common.{◌≡◌, ◌++◌, map, length}
use Rattle.std.specs.List.{slice_split}
use Rattle.text_core.specs.Choices.{is_bar}
use Rattle.text_core.specs.Fnmatch.{fnmatch_part}
use Rattle.text_core.proofs.choice.Choice.read_fnmatch.Given as goal

abbrev pub invariant-loop-place : goal.invariant-loop-place
invariant-loop-place l =
    l.parts.items ++ map (fnmatch_part l.reading l.is_pattern) (slice_split is_bar l.rest) ≡ map (fnmatch_part l.reading l.is_pattern) (slice_split is_bar l.text)

abbrev pub decreases-loop-place : goal.decreases-loop-place
decreases-loop-place l = length l.rest
