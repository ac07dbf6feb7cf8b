use Rattle.std.proofs.Common.{Some, None}
use Rattle.file_catalogue.specs.Sections.{explanation, is_on, lint_sections, message_sections}
use Rattle.file_catalogue.proofs.Rows.{in_first, in_second, seen_found}
use Rattle.file_catalogue.proofs.sections.explanation.Goals as goal

pub returns-in-Some : goal.returns-in-Some
unfolding explanation
returns-in-Some c =
    in_first (λ section. is_on section c.args.code.now) message_sections lint_sections _ (seen_found (λ section. is_on section c.args.code.now) (λ section. section.now) c.message_sections.result.now message_sections (Some c.in-Some.section) c.in-Some.ensures c.message_sections.ensures)

pub returns-in-None : goal.returns-in-None
unfolding explanation
returns-in-None c =
    in_second (λ section. is_on section c.args.code.now) message_sections lint_sections _ (seen_found (λ section. is_on section c.args.code.now) (λ section. section.now) c.message_sections.result.now message_sections None c.in-None.ensures c.message_sections.ensures)
    (seen_found (λ section. is_on section c.args.code.now) (λ section. section.now) c.lint_sections.result.now lint_sections _ c.section_among-in-None.ensures c.lint_sections.ensures)
