use Rattle.std.proofs.Common.{◌≡◌, ◌++◌, map, take, option_map}
use Rattle.engine_answers.specs.Answers.{lines_after}
use Rattle.engine_answers.specs.Items.{member_lines}
use Rattle.engine_answers.specs.Inner.{front_of}
use Rattle.engine_answers.proofs.items.push_members.Given as goal

abbrev pub invariant-loop-text : goal.invariant-loop-text
invariant-loop-text l = l.lines.items ≡ l.initial.lines.items ++ lines_after (front_of (option_map (λ s. s.now) l.sources)) (member_lines l.word (map (λ t. t.items) (take l.text-index l.text-items)))
