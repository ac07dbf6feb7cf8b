use Rattle.std.proofs.Common.{◌≡◌, ◌++◌, take, option_map}
use Rattle.engine_answers.specs.Answers.{lines_after}
use Rattle.engine_answers.specs.Items.{label_lines}
use Rattle.engine_answers.specs.Inner.{front_of}
use Rattle.engine_answers.proofs.items.push_labels.Given as goal

abbrev pub invariant-loop-label : goal.invariant-loop-label
invariant-loop-label l = l.lines.items ≡ l.initial.lines.items ++ lines_after (front_of (option_map (λ s. s.now) l.sources)) (label_lines l.profile (take l.label-index l.labels))
