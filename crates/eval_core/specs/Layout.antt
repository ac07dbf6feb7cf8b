-- Serves inner proofs only: rules laid out for evaluation.
use Rattle.std.specs.Prelude.{◌≡◌, ℕ, List, map}
use Rattle.text_bytes.specs.Text.{Text}
use Rattle.rule_types.specs.Rules.{Rule}
use Rattle.rule_types.specs.Passed.{skipped}
use Rattle.eval_core.specs.Courses.{course_of}
use Rattle.eval_core.specs.declared.courses.Course.{Course}

-- for each rule how many its jump skips, and its course
pub record IsLaidOut (rules : List Rule) (passes : List ℕ) (names : List Text) (courses : List Course) : Type 0 where
  pub over : passes ≡ skipped rules
  pub known : courses ≡ map (course_of names) rules
