use Rattle.std.proofs.Common.{◌≡◌, length}
use Rattle.std.specs.Prelude.{fold}
use Rattle.std.specs.List.{slice_split}
use Rattle.text_core.specs.Choices.{is_bar}
use Rattle.rule_remarks.specs.Words.{parts_of, with_word}
use Rattle.rule_remarks.proofs.words.parts_of.Given as goal

abbrev pub invariant-loop-place : goal.invariant-loop-place
invariant-loop-place l = fold with_word l.words (slice_split is_bar l.rest) ≡ parts_of l.text

abbrev pub decreases-loop-place : goal.decreases-loop-place
decreases-loop-place l = length l.rest
