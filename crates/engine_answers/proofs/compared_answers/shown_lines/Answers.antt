use Rattle.std.proofs.Common.{◌≡◌, Bor, List, ℕ, map, ap, sym, ◌∙◌}
use Rattle.text_bytes.specs.Lines.{lines}
use Rattle.text_tables.specs.Surplus.{ShownLine, line_of}
use Rattle.engine_answers.specs.Differences.{shown_lines}
use Rattle.engine_answers.proofs.Reporting.{all_read, firsts, lines_shown}
use Rattle.engine_answers.proofs.compared_answers.shown_lines.Goals as goal

pub returns-clause-compared : goal.returns-clause-compared
returns-clause-compared c =
    let all : map {A = Bor (List ℕ) × Bor (List ℕ)} {B = ShownLine} (λ l. (l.0.now, l.1.now)) c.loop-rest.lines.items ≡ shown_lines (c.args.answer.0.now, c.args.answer.1.now) =
    all_read _ c.loop-rest.rest.now (lines c.loop-rest.others.now) _ (sym c.is_empty.ensures ∙ c.loop-rest-test.false) c.loop-rest.invariant in
    firsts (λ (l : Bor (List ℕ) × Bor (List ℕ)). (l.0.now, l.1.now)) c.loop-rest.lines.items ∙ ap (map line_of) all ∙ lines_shown (c.args.answer.0.now, c.args.answer.1.now)
