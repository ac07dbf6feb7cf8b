-- A line that asks for no more than the answers.
use Rattle.std.proofs.Common.{◌≡◌, ℕ, Bool, false, not, ◌||◌, ◌==◌, cond, List, [], ◌∷◌, length, map, Result, Ok, Err, refl, ap, sym, ◌∙◌, rules, vec_len}
use Rattle.text_bytes.specs.Text.{Text}
use Rattle.device_core.specs.Values.{EventValue}
use Rattle.engine_courses.specs.Asked.{unknown}
use Rattle.builtin_devices.specs.Knowledge.{FilesFound}
use Rattle.engine_sessions.specs.declared.line.Format.{Format}
use Rattle.engine_sessions.specs.declared.line.Line.{Line}
use Rattle.engine_sessions.specs.Delivery.{RunOutcome}
use Rattle.engine_reports.specs.Openings.{OpeningValue}
use Rattle.engine_answers.specs.Answers.{answer_by}
use Rattle.engine_courses.specs.Questions.{question_answer}
use Rattle.engine_core.specs.Outcomes.{answer_with, asked_of, asks_more, is_json, known_for, reported_for, why_of}
use Rattle.engine_core.specs.Reported.{reported_by}
use Rattle.engine_sessions.specs.Sessions.{answers_as}

none_asked : {A B : Type 0} (f : A → B) (l : List A) → length l ≡ 0 → map f l ≡ []
none_asked f [] e = refl
none_asked f (x ∷ l) e = cc

pub nothing_asked : (line : Line) → vec_len line.why ≡ 0 → why_of line ≡ []
nothing_asked line e = let same : vec_len line.why ≡ length line.why.items = search rules in none_asked (λ w. w.now) line.why.items (sym same ∙ e)

opened_as_it_is : (format : Format) (opened : Result OpeningValue RunOutcome) → asked_of format [] opened ≡ opened
unfolding unknown
opened_as_it_is format (Ok opened) = refl
opened_as_it_is format (Err said) = refl

pub asked_as_it_is : (line : Line) (opened : Result OpeningValue RunOutcome) → vec_len line.why ≡ 0 → asked_of line.format (why_of line) opened ≡ opened
asked_as_it_is line opened e = ap (λ why. asked_of line.format why opened) (nothing_asked line e) ∙ opened_as_it_is line.format opened

asks_no_more : (line : Line) → line.sources ≡ false → vec_len line.why ≡ 0 → is_json line.format ≡ false → asks_more line ≡ false
asks_no_more line a b f = ap (λ (s : Bool). (s || not (vec_len line.why == 0)) || is_json line.format) a ∙ ap (λ (n : ℕ). not (n == 0) || is_json line.format) b ∙ f

pub answered_alone : (line : Line) (found : FilesFound) (opened : OpeningValue) → line.questions ≡ false → line.sources ≡ false → vec_len line.why ≡ 0 → is_json line.format ≡ false → answer_with line found opened ≡ answers_as line.profile (answer_by opened.rules (known_for line found opened))
answered_alone line found opened q a b f =
    let asked : EventValue → Text = question_answer opened.rules (known_for line found opened) in
    let alone : EventValue → Text = answer_by opened.rules (known_for line found opened) in
    ap (λ (s : Bool). answers_as line.profile (cond s asked (cond (asks_more line) (reported_by (reported_for line opened) (known_for line found opened)) alone))) q
    ∙ ap (λ (s : Bool). answers_as line.profile (cond s (reported_by (reported_for line opened) (known_for line found opened)) alone)) (asks_no_more line a b f)
