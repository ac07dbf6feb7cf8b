use Rattle.std.proofs.Common.{◌≡◌, ◌++◌, map, option_map}
use Rattle.std.specs.Cow.{cow_slice_items}
use Rattle.engine_answers.specs.Answers.{lines_after}
use Rattle.engine_answers.specs.Items.{value_lines}
use Rattle.engine_answers.specs.Inner.{front_of}
use Rattle.engine_answers.proofs.items.push_values.Given as goal

abbrev pub invariant-loop-name : goal.invariant-loop-name
invariant-loop-name l = l.lines.items ++ lines_after (front_of (option_map (λ s. s.now) l.sources)) (value_lines l.word (map (λ e. (cow_slice_items e.0, cow_slice_items e.1)) l.name-iterator)) ≡ l.initial.lines.items ++ lines_after (front_of (option_map (λ s. s.now) l.sources)) (value_lines l.word l.fn.pairs)
