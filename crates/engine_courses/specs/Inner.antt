-- Serves inner proofs only: the nearest place, one place after another, what is reported moment by moment, the counts of
-- rules after one more event for the rule at a place, and the line on the rule at a place.
use Rattle.std.specs.Prelude.{ℕ, zero, suc, if◌then◌else◌, List, [], ◌∷◌, ◌++◌, Option, Some, None, flat_map, fold, refl}
use Rattle.std.specs.Coded.{Coded, code_by, coded×, coded_list, coded_option, coded_ℕ}
use Rattle.text_bytes.specs.Text.{Text}
use Rattle.rule_types.specs.Rules.{Rule}
use Rattle.eval_state.specs.KeyTables.{by_key_code}
use Rattle.eval_state.specs.declared.scene.Scene.{Scene}
use Rattle.eval_effects.specs.Effects.{ending}
use Rattle.eval_effects.specs.Since.{Since, since_after}
use Rattle.eval_rules.specs.Watched.{Happening, acted, assigned, entered, left, passed}
use Rattle.eval_courses.specs.Acts.{act_met}
use Rattle.eval_courses.specs.Inner.{moment_reports}
use Rattle.eval_courses.specs.declared.fate.Fate.{Fate}
use Rattle.engine_courses.specs.Asked.{is_asked}
use Rattle.engine_courses.specs.Nearest.{Candidate, is_nearer}
use Rattle.engine_courses.specs.Rows.{Row, with_fate}
use Rattle.engine_courses.specs.Unused.{reported_line}
use Rattle.engine_courses.specs.WhyLines.{jumping_after, passed_texts, reported_if_asked, rule_lines}

-- the nearer of the nearest so far and one more
abbrev pub nearer : Option Candidate → Candidate → Option Candidate
nearer None found = Some found
nearer (Some best) found = Some (if is_nearer found best then found else best)

-- the nearest of these, one after another
abbrev pub nearest_so_far : List Candidate → Option Candidate
nearest_so_far found = fold nearer None found

-- what is known while rules are evaluated: what is asked for, the rule that was reached last if it is asked for, the one
-- whose GOTO is followed, since when keys are final, and the lines until now
pub record Reporting : Type 0 where
  pub why : List Text
  pub about : Option Rule
  pub jumping : Option Rule
  pub since : Since
  pub lines : Text

-- how it is stored
abbrev pub reporting_code : Coded Rule → Coded Reporting
reporting_code c =
    code_by (List Text × (Option Rule × (Option Rule × (Since × Text))))
    (coded× (coded_list (coded_list coded_ℕ)) (coded× (coded_option c) (coded× (coded_option c) (coded× (by_key_code (coded_option c)) (coded_list coded_ℕ)))))
    (λ w. (w.why, (w.about, (w.jumping, (w.since, w.lines)))))
    (λ t. record { why = t.0; about = t.1.0; jumping = t.1.1.0; since = t.1.1.1.0; lines = t.1.1.1.1 })
    (λ _. refl)

-- a rule, if it is asked for
abbrev pub about_of : List Text → Rule → Option Rule
about_of why r = if is_asked why r.file r.line then Some r else None

-- lines, with those of texts on a rule
abbrev pub with_lines : Option Rule → Text → List Text → Text
with_lines None lines texts = lines
with_lines (Some r) lines texts = lines ++ rule_lines (r, texts)

-- texts on the rule that was reached last, if it is asked for
abbrev pub with_texts : Reporting → List Text → Reporting
with_texts w texts = record w { lines = with_lines w.about w.lines texts }

-- what is known once more happened
abbrev pub reporting : Reporting → Happening → Scene → Reporting
reporting w (passed r) s = record w { lines = w.lines ++ flat_map rule_lines (reported_if_asked w.why r (passed_texts w.jumping)) }
reporting w (entered r) s = record w { about = about_of w.why r }
reporting w (left r reached) s = record w { since = since_after w.since r s.finals; jumping = jumping_after reached r }
reporting w (acted r act went) s = with_texts w (act_met act s went ∷ [])
reporting w (assigned r made) s = with_texts w (ending w.since r s ∷ [])
reporting w happening s = with_texts w (moment_reports happening s)

-- the counts of rules, with one more event for that at a place
abbrev pub with_fate_at : List Row → ℕ → Fate → List Row
with_fate_at [] place f = []
with_fate_at (row ∷ rows) zero f = with_fate row f ∷ rows
with_fate_at (row ∷ rows) (suc place) f = row ∷ with_fate_at rows place f

-- the line on the rule at a place, by the counts at that place, if it is reported on
abbrev pub line_at : List Text → List Rule → List Row → ℕ → Text
line_at names [] rows place = []
line_at names (r ∷ rs) [] place = []
line_at names (r ∷ rs) (row ∷ rows) zero = reported_line names r row
line_at names (r ∷ rs) (row ∷ rows) (suc place) = line_at names rs rows place
