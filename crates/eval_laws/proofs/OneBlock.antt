-- What `events` and `compare` write over one block, and over none.
use Rattle.std.proofs.Common.{◌≡◌, Bool, true, false, ◌||◌, ◌&&◌, not, ◌==◌, cond, List, [], ◌∷◌, ◌++◌, Result, Ok, refl, ap, ap₂, sym, ◌∙◌, true≢false}
use Rattle.std.proofs.lemmas.List.{append-nil}
use Rattle.std.specs.Prelude.{vec_len}
use Rattle.text_bytes.specs.Text.{Text}
use Rattle.text_bytes.specs.declared.profile.Profile.{Profile}
use Rattle.builtin_devices.specs.Knowledge.{FilesFound, Known}
use Rattle.device_core.specs.Faults.{block_gives}
use Rattle.device_core.specs.Runs.{runs}
use Rattle.device_core.specs.Values.{EventValue, by_profile}
use Rattle.device_core.specs.declared.faults.BlockFault.{BlockFault}
use Rattle.engine_answers.specs.Answers.{answer_by, sourced_lines}
use Rattle.engine_answers.specs.Differences.{ShownAnswer, differences, itself}
use Rattle.engine_answers.specs.Objects.{compared, differences_in_json}
use Rattle.engine_core.specs.Comparing.{both_messages, compare_outcome, compared_answer, differences_by}
use Rattle.engine_core.specs.Outcomes.{answer_by_line, answer_with, asks_more, is_json, known_for, outcome_by, reported_for, telling_of, unused_of, why_of}
use Rattle.engine_core.specs.Reported.{reported_by}
use Rattle.engine_courses.specs.Questions.{question_answer}
use Rattle.engine_sessions.specs.Delivery.{RunOutcome}
use Rattle.engine_sessions.specs.Readers.{is_for_people}
use Rattle.engine_sessions.specs.declared.line.Line.{Line}
use Rattle.engine_formats.specs.Masked.{shown_in}
use Rattle.engine_reports.specs.Openings.{OpeningValue}
use Rattle.engine_sessions.specs.Answers.{answers_to, well, with_block}
use Rattle.engine_sessions.specs.Outcomes.{answered, input_outcome, no_block_line}
use Rattle.engine_sessions.specs.Sessions.{answers_as}
use Rattle.engine_sessions.specs.Tallies.{with_said}
use Rattle.engine_sessions.specs.declared.following.Telling.{Telling}

-- the output over one block is the answer to its event
one_answer : (telling : Telling) (messages : Text) (answer : EventValue → Text) (input block : Text) (event : EventValue) → runs input ≡ block ∷ [] → block_gives block ≡ Ok event
    → (input_outcome telling messages answer input).output ≡ answer event
one_answer telling messages answer input block event one gives =
    ap (λ (blocks : List Text). (answered telling messages (answers_to answer blocks)).output) one
    ∙ ap (λ (given : Result EventValue BlockFault). (answered telling messages (with_block answer given (well []))).output) gives
    ∙ append-nil (answer event)

-- what is written over no block after messages, by whether that is told
abbrev nothing_after : Text → Bool → RunOutcome
nothing_after messages told = record { output = []; messages = cond told (messages ++ no_block_line) messages; status = 0 }

told_alone : (messages : Text) (told : Bool) → nothing_after messages (told && true) ≡ nothing_after messages told
told_alone messages true = refl
told_alone messages false = refl

-- what `events` writes over no block, by whether that is told
pub none_told : (line : Line) (found : FilesFound) (opening : OpeningValue) → line.unused ≡ false → (told : Bool) → (line.all || is_for_people line.format) ≡ told
    → outcome_by line found (Ok opening) [] ≡ record { output = []; messages = cond told (shown_in line.format opening.messages ++ no_block_line) (shown_in line.format opening.messages); status = 0 }
none_told line found opening unused told is =
    let messages : Text = shown_in line.format opening.messages in
    let own : RunOutcome = input_outcome (telling_of line) messages (answer_with line found opening) [] in
    ap (λ (b : Bool). cond {A = RunOutcome} b (with_said (unused_of line found opening []) own) own) unused
    ∙ ap (λ (b : Bool). nothing_after messages (b && true)) is
    ∙ told_alone messages told

neither : (a b c : Bool) → ((a || b) || c) ≡ false → (a ≡ false) × (c ≡ false)
neither true b c h = absurd (true≢false h)
neither false true c h = absurd (true≢false h)
neither false false c h = (refl, h)

module _ (line : Line) (found : FilesFound) (opening : OpeningValue) (more : asks_more line ≡ false) (questions : line.questions ≡ false) where
  abbrev known : Known
  known = known_for line found opening

  -- a line that asks for nothing more gets the answer alone
  plain_answer : (event : EventValue) → answer_by_line line found opening event ≡ answer_by opening.rules known event
  plain_answer event =
      ap (λ (b : Bool). (cond {A = EventValue → Text} b (question_answer opening.rules known) (cond {A = EventValue → Text} (asks_more line) (reported_by (reported_for line opening) known) (answer_by opening.rules known))) event) questions
      ∙ ap (λ (b : Bool). (cond {A = EventValue → Text} b (reported_by (reported_for line opening) known) (answer_by opening.rules known)) event) more

  -- what `events` writes over one block
  pub event_answer : line.unused ≡ false → (profile : Profile) → line.profile ≡ profile → (input block : Text) (event : EventValue) → runs input ≡ block ∷ [] → block_gives block ≡ Ok event
      → (outcome_by line found (Ok opening) input).output ≡ answer_by opening.rules known (by_profile profile event)
  event_answer unused profile is input block event one gives =
      let own : RunOutcome = input_outcome (telling_of line) (shown_in line.format opening.messages) (answer_with line found opening) input in
      ap (λ (b : Bool). (cond {A = RunOutcome} b (with_said (unused_of line found opening input) own) own).output) unused
      ∙ one_answer (telling_of line) (shown_in line.format opening.messages) (answer_with line found opening) input block event one gives
      ∙ plain_answer (by_profile line.profile event)
      ∙ ap (λ (p : Profile). answer_by opening.rules known (by_profile p event)) is

module _ (old_line new_line : Line) (old_found new_found : FilesFound) (old new : OpeningValue) (old_more : asks_more old_line ≡ false) (new_more : asks_more new_line ≡ false) where
  abbrev old_answer : EventValue → Text
  old_answer = answer_by old.rules (known_for old_line old_found old)

  abbrev new_answer : EventValue → Text
  new_answer = answer_by new.rules (known_for new_line new_found new)

  -- what differs, if it is written as lines, and without sources
  plain_differences : (event : EventValue) → differences_by old_line new_line old_found new_found old new event ≡ differences event (itself (old_answer event)) (itself (new_answer event))
  plain_differences event =
      let old_asks = neither old_line.sources (not (vec_len old_line.why == 0)) (is_json old_line.format) old_more in
      let old_shown : ShownAnswer = compared_answer old_line.sources old.rules (known_for old_line old_found old) event in
      let new_shown : ShownAnswer = compared_answer old_line.sources new.rules (known_for new_line new_found new) event in
      ap (λ (b : Bool). cond {A = Text} b (differences_in_json event old_shown new_shown) (differences event old_shown new_shown)) old_asks.1
      ∙ ap₂ (differences event)
      (ap (λ (b : Bool). (old_answer event, cond {A = Text} b (sourced_lines old.rules (known_for old_line old_found old) event) (old_answer event))) old_asks.0)
      (ap (λ (b : Bool). (new_answer event, cond {A = Text} b (sourced_lines new.rules (known_for new_line new_found new) event) (new_answer event))) old_asks.0)

  pub compared_answers : new_line.profile ≡ old_line.profile → old_line.questions ≡ false → old_line.unused ≡ false → new_line.questions ≡ false → new_line.unused ≡ false
      → (input block : Text) (event : EventValue) → runs input ≡ block ∷ [] → block_gives block ≡ Ok event
      → (compare_outcome old_line new_line old_found new_found (Ok old) (Ok new) input).output
      ≡ differences (by_profile old_line.profile event) (itself (outcome_by old_line old_found (Ok old) input).output) (itself (outcome_by new_line new_found (Ok new) input).output)
  compared_answers same old_questions old_unused new_questions new_unused input block event one gives =
      one_answer (telling_of old_line) (shown_in old_line.format (both_messages old.messages new.messages)) (answers_as old_line.profile (differences_by old_line new_line old_found new_found old new)) input block event one gives
      ∙ plain_differences (by_profile old_line.profile event)
      ∙ sym (ap₂ (λ (a b : Text). differences (by_profile old_line.profile event) (itself a) (itself b))
      (event_answer old_line old_found old old_more old_questions old_unused old_line.profile refl input block event one gives)
      (event_answer new_line new_found new new_more new_questions new_unused old_line.profile same input block event one gives))
