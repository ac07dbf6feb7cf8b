use Rattle.std.proofs.Common.{◌≡◌, Bor, List, ℕ, IfOk, map, ap, ap₂, ◌∙◌, subst}
use Rattle.text_bytes.specs.Text.{Text}
use Rattle.text_tables.specs.Surplus.{ShownLine, line_of, surplus_by}
use Rattle.engine_answers.specs.Differences.{ShownAnswer, compared_lines, differences, more_shown, reported_for, shown_lines, shown_of}
use Rattle.engine_answers.proofs.Reporting.{seconds}
use Rattle.engine_answers.proofs.compared_answers.differences.Goals as goal

abbrev Pairs : Type 0
Pairs = List (Bor (List ℕ) × Bor (List ℕ))

abbrev as_shown : Bor (List ℕ) × Bor (List ℕ) → ShownLine
as_shown line = (line.0.now, line.1.now)

-- what is shown for the lines that are more
shown : (answer other : ShownAnswer) (lines others more given : Pairs) → map as_shown lines ≡ shown_lines answer → map (λ l. l.0.now) others ≡ compared_lines other.0
    → map as_shown more ≡ surplus_by line_of (map as_shown lines) (map (λ l. l.0.now) others) → given ≡ more → map (λ l. l.1.now) given ≡ more_shown answer other
shown answer other lines others more given l o m g =
    ap (map (λ l. l.1.now)) g ∙ seconds as_shown more ∙ ap (map shown_of) (m ∙ ap₂ (λ a b. surplus_by line_of a b) l o)

pub returns : goal.returns
returns c =
    let old : ShownAnswer = (c.args.old.0.now, c.args.old.1.now) in
    let new : ShownAnswer = (c.args.new.0.now, c.args.new.1.now) in
    let gone = shown old new _ _ _ _ (ap (map as_shown) c.deref.ensures.value ∙ c.in_ok-old_lines.ensures.lines) (ap (map (λ l. l.0.now)) c.deref-2.ensures.value ∙ c.in_ok-new_lines.ensures.compared) c.in_ok-gone.ensures c.deref-5.ensures.value in
    let come = shown new old _ _ _ _ (ap (map as_shown) c.deref-3.ensures.value ∙ c.in_ok-new_lines.ensures.lines) (ap (map (λ l. l.0.now)) c.deref-4.ensures.value ∙ c.in_ok-old_lines.ensures.compared) c.in_ok-come.ensures c.deref-6.ensures.value in
    subst (λ (t : Text). IfOk c.reported_for.result (λ text. text ≡ t)) (ap₂ (reported_for c.args.event.now) gone come) c.reported_for.ensures
