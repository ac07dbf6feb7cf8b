use Rattle.std.proofs.Common.{◌≡◌, List, [], ◌∷◌, ◌++◌, Some, ap, ◌∙◌}
use Rattle.std.proofs.lemmas.List.Sums.{fold-append}
use Rattle.std.specs.Option.{option_to_list}
use Rattle.text_bytes.specs.Text.{Text}
use Rattle.device_core.specs.Blocks.{answers, answers_after, change_last}
use Rattle.device_core.specs.Lines.{Row}
use Rattle.device_core.specs.Parts.{answer_of}
use Rattle.device_core.specs.Values.{AnswerValue, with_line}
use Rattle.device_core.specs.declared.lines.LineKind.TheVariants.{Answer, Output}
use Rattle.device_core.proofs.Rows.{change_end}
use Rattle.eval_laws.proofs.outputs.a_line_below_an_answer_is_one_more_of_it.Goals as goal

more : (rows : List Row) (rest line : Text) (answer : AnswerValue) → answer_of rest ≡ Some answer
    → answers (rows ++ (Answer, rest) ∷ (Output, line) ∷ []) ≡ answers rows ++ with_line line answer ∷ []
unfolding answers
more rows rest line answer e =
    fold-append (λ (given : List AnswerValue) (row : Row). answers_after given row.0 row.1) [] rows ((Answer, rest) ∷ (Output, line) ∷ [])
    ∙ ap (λ o. change_last (with_line line) (answers rows ++ option_to_list o)) e
    ∙ change_end (with_line line) (answers rows) answer

pub returns : goal.returns
returns c = more
