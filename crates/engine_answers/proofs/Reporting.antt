-- Where nothing is reported for an event.
use Rattle.std.proofs.Common.{◌≡◌, ◌↔◌, ℕ, ◌+◌, ◌==◌, ◌&&◌, Bool, true, false, cond, List, [], ◌∷◌, ◌++◌, codes, filter, length, map, refl, ap, ap₂, sym, ◌∙◌, append_assoc, arith}
use Rattle.std.proofs.lemmas.Bool.{eqb-true}
use Rattle.std.proofs.lemmas.List.{append-nil}
use Rattle.text_bytes.specs.Lines.{lines}
use Rattle.text_bytes.specs.Names.{newline}
use Rattle.text_bytes.specs.Text.{Text}
use Rattle.device_core.specs.Values.{EventValue}
use Rattle.engine_sessions.specs.EventLine.{event_line}
use Rattle.text_tables.specs.Surplus.{ShownLine, line_of, surplus, surplus_by, times}
use Rattle.engine_answers.specs.Differences.{ShownAnswer, after_first, beside, compared_lines, differences, is_compared, marked_lines, more_shown, reported_for, shown_lines, shown_of}
use Rattle.engine_answers.specs.Objects.{compared, differences_in_json, differences_object, object_for}
use Rattle.json.specs.Json.{Json}
use Rattle.json.specs.Print.{print}
use Rattle.json.specs.Tree.{json_tokens}
use Rattle.text_json.specs.Values.{value_line}
use Rattle.text_tables.proofs.Counting.{chosen, nothing_differs}

-- four texts in a row, the first apart
pub apart : (a b c d : Text) → ((a ++ b) ++ c) ++ d ≡ a ++ ((b ++ c) ++ d)
apart a b c d = append_assoc (a ++ b) c d ∙ append_assoc a b (c ++ d) ∙ ap (λ t. a ++ t) (sym (append_assoc b c d))

-- if two texts in a row have no byte, the second has none
second_empty : {A : Type 0} (first second : List A) → first ++ second ≡ [] → second ≡ []
second_empty [] second h = h
second_empty (a ∷ first) second h = absurd (cc)

-- what is reported for an event ends in an empty line
reported_ends : (event : EventValue) (gone come : List Text) → event_line event.action event.device.path ++ marked_lines (codes "-") gone ++ marked_lines (codes "+") come ++ newline ∷ [] ≡ [] → ⊥
reported_ends event gone come h =
    let end : newline ∷ [] ≡ [] = second_empty (event_line event.action event.device.path ++ marked_lines (codes "-") gone ++ marked_lines (codes "+") come) (newline ∷ []) h in
    cc

both : (a b : Bool) → (a && b) ≡ true → (a ≡ true) × (b ≡ true)
both true b h = (refl, h)
both false b h = absurd (cc)

none_in : (texts : List Text) → (length texts == 0) ≡ true → texts ≡ []
none_in [] h = refl
none_in (text ∷ texts) h = let none : length (text ∷ texts) ≡ 0 = eqb-true (length (text ∷ texts)) 0 h in absurd (omega (arith, none))

reported_nothing : (event : EventValue) (gone come : List Text) → reported_for event gone come ≡ [] → (gone ≡ []) × (come ≡ [])
reported_nothing event gone come h = by (length gone == 0 && length come == 0) refl h
  where
    by : (b : Bool) → (length gone == 0 && length come == 0) ≡ b
        → cond b [] (event_line event.action event.device.path ++ marked_lines (codes "-") gone ++ marked_lines (codes "+") come ++ newline ∷ []) ≡ [] → (gone ≡ []) × (come ≡ [])
    by true is none = let empty = both (length gone == 0) (length come == 0) is in (none_in gone empty.0, none_in come empty.1)
    by false is none = absurd (reported_ends event gone come none)

reports_nothing : (event : EventValue) (gone come : List Text) → (gone ≡ []) × (come ≡ []) → reported_for event gone come ≡ []
reports_nothing event gone come e = ap₂ (reported_for event) e.0 e.1

-- the lines that are compared, whatever is shown for them
beside_lines : (lines others : List Text) → map line_of (filter (λ line. is_compared (line_of line)) (beside lines others)) ≡ filter is_compared lines
beside_lines [] others = refl
beside_lines (line ∷ lines) [] = by (is_compared line) (beside_lines lines [])
  where
    by : (b : Bool) → map line_of (filter (λ l. is_compared (line_of l)) (beside lines [])) ≡ filter is_compared lines
        → map line_of (cond b ((line, line) ∷ filter (λ l. is_compared (line_of l)) (beside lines [])) (filter (λ l. is_compared (line_of l)) (beside lines []))) ≡ cond b (line ∷ filter is_compared lines) (filter is_compared lines)
    by true h = ap (λ more. line ∷ more) h
    by false h = h
beside_lines (line ∷ lines) (other ∷ others) = by (is_compared line) (beside_lines lines others)
  where
    by : (b : Bool) → map line_of (filter (λ l. is_compared (line_of l)) (beside lines others)) ≡ filter is_compared lines
        → map line_of (cond b ((line, other) ∷ filter (λ l. is_compared (line_of l)) (beside lines others)) (filter (λ l. is_compared (line_of l)) (beside lines others))) ≡ cond b (line ∷ filter is_compared lines) (filter is_compared lines)
    by true h = ap (λ more. line ∷ more) h
    by false h = h

pub lines_shown : (answer : ShownAnswer) → map line_of (shown_lines answer) ≡ compared_lines answer.0
lines_shown answer = beside_lines (after_first (lines answer.0)) (after_first (lines answer.1))

-- where nothing is left to read, all lines were read
pub all_read : (read : List ShownLine) (rest : List ℕ) (others : List Text) (whole : List ShownLine) → (length rest == 0) ≡ true
    → read ++ filter (λ line. is_compared (line_of line)) (beside (lines rest) others) ≡ whole → read ≡ whole
all_read read [] others whole e h = sym (append-nil read) ∙ h
all_read read (b ∷ rest) others whole e h = let none : length (b ∷ rest) ≡ 0 = eqb-true (length (b ∷ rest)) 0 e in absurd (omega (arith, none))

-- the parts of lines that are pairs
pub firsts : {I : Type 0} (f : I → ShownLine) (items : List I) → map (λ i. line_of (f i)) items ≡ map line_of (map f items)
firsts f [] = refl
firsts f (item ∷ items) = ap (λ more. line_of (f item) ∷ more) (firsts f items)

pub seconds : {I : Type 0} (f : I → ShownLine) (items : List I) → map (λ i. shown_of (f i)) items ≡ map shown_of (map f items)
seconds f [] = refl
seconds f (item ∷ items) = ap (λ more. shown_of (f item) ∷ more) (seconds f items)

none_mapped : {A B : Type 0} (f : A → B) (items : List A) → map f items ≡ [] → items ≡ []
none_mapped f [] h = refl
none_mapped f (item ∷ items) h = absurd (cc)

-- nothing is shown exactly if nothing is more
more_lines : (answer other : ShownAnswer) → map line_of (surplus_by line_of (shown_lines answer) (compared_lines other.0)) ≡ surplus (compared_lines answer.0) (compared_lines other.0)
more_lines answer other = chosen line_of [] (shown_lines answer) (compared_lines other.0) ∙ ap (λ texts. surplus texts (compared_lines other.0)) (lines_shown answer)

none_shown : (answer other : ShownAnswer) → (more_shown answer other ≡ []) ↔ (surplus (compared_lines answer.0) (compared_lines other.0) ≡ [])
none_shown answer other = (
  (λ h. sym (more_lines answer other) ∙ ap (map line_of) (none_mapped shown_of (surplus_by line_of (shown_lines answer) (compared_lines other.0)) h)),
  (λ h. ap (map shown_of) (none_mapped line_of (surplus_by line_of (shown_lines answer) (compared_lines other.0)) (more_lines answer other ∙ h))),
)

both_shown : (old new : ShownAnswer) → ((more_shown old new ≡ []) × (more_shown new old ≡ [])) ↔ ((text : Text) → times text (compared_lines old.0) ≡ times text (compared_lines new.0))
both_shown old new =
    let differs = nothing_differs (compared_lines old.0) (compared_lines new.0) in
    let gone = none_shown old new in
    let come = none_shown new old in (
      (λ h. differs.0 (gone.0 h.0, come.0 h.1)),
      (λ same. let none = differs.1 same in (gone.1 none.0, come.1 none.1)),
    )

pub nothing_reported : (event : EventValue) (old new : ShownAnswer) → (differences event old new ≡ []) ↔ ((text : Text) → times text (compared_lines old.0) ≡ times text (compared_lines new.0))
nothing_reported event old new = (
  (λ none. (both_shown old new).0 (reported_nothing event _ _ none)),
  (λ same. reports_nothing event _ _ ((both_shown old new).1 same)),
)

pub same_answer : (event : EventValue) (answer old_shown new_shown : Text) → differences event (answer, old_shown) (answer, new_shown) ≡ []
same_answer event answer old_shown new_shown = (nothing_reported event (answer, old_shown) (answer, new_shown)).1 (λ text. refl)

-- an object on its line has a byte
line_ends : (value : Json) → value_line value ≡ [] → ⊥
unfolding value_line
line_ends value h = let end : newline ∷ [] ≡ [] = second_empty (print (json_tokens value)) (newline ∷ []) h in cc

no_object : (event : EventValue) (gone come : List Text) → object_for event gone come ≡ [] → (gone ≡ []) × (come ≡ [])
no_object event gone come h = by (length gone == 0 && length come == 0) refl h
  where
    by : (b : Bool) → (length gone == 0 && length come == 0) ≡ b → cond b [] (value_line (differences_object event gone come)) ≡ [] → (gone ≡ []) × (come ≡ [])
    by true is none = let empty = both (length gone == 0) (length come == 0) is in (none_in gone empty.0, none_in come empty.1)
    by false is none = absurd (line_ends (differences_object event gone come) none)

object_of_nothing : (event : EventValue) (gone come : List Text) → (gone ≡ []) × (come ≡ []) → object_for event gone come ≡ []
object_of_nothing event gone come e = ap₂ (object_for event) e.0 e.1

pub nothing_in_json : (event : EventValue) (old new : ShownAnswer) → (differences_in_json event old new ≡ []) ↔ ((text : Text) → times text (compared_lines old.0) ≡ times text (compared_lines new.0))
nothing_in_json event old new = (
  (λ none. (both_shown old new).0 (no_object event _ _ none)),
  (λ same. object_of_nothing event _ _ ((both_shown old new).1 same)),
)

-- nothing is compared where two answers are the same
pub same_compared : (json : Bool) (event : EventValue) (old new : ShownAnswer) → old.0 ≡ new.0 → compared json event old new ≡ []
same_compared true event old new same = (nothing_in_json event old new).1 (λ text. ap (λ t. times text (compared_lines t)) same)
same_compared false event old new same = (nothing_reported event old new).1 (λ text. ap (λ t. times text (compared_lines t)) same)
