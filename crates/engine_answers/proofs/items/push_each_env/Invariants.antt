use Rattle.std.proofs.Common.{◌≡◌, ◌++◌, drop, option_map}
use Rattle.engine_answers.specs.Answers.{lines_after}
use Rattle.engine_answers.specs.Items.{env_lines}
use Rattle.engine_answers.specs.Inner.{front_of}
use Rattle.engine_answers.proofs.items.push_each_env.Given as goal

abbrev pub invariant-loop-place : goal.invariant-loop-place
invariant-loop-place l = l.lines.items ++ lines_after (front_of (option_map (λ s. s.now) l.sources)) (env_lines (drop l.place l.fn.pairs)) ≡ l.initial.lines.items ++ lines_after (front_of (option_map (λ s. s.now) l.sources)) (env_lines l.fn.pairs)
