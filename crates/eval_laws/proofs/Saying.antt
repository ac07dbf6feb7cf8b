-- By the manual an event has the note that a command has no answer once for each time that the rules ask it.
use Rattle.std.proofs.Common.{◌≡◌, Bool, true, false, cond, List, [], ◌∷◌, ◌++◌, map, Option, None, append_assoc, append-nil, refl, ap, sym, ◌∙◌}
use Rattle.std.specs.List.{filter}
use Rattle.std.proofs.lemmas.List.{map-append}
use Rattle.std.proofs.lemmas.List.Elements.{filter-append}
use Rattle.text_bytes.specs.Texts.{word_of}
use Rattle.text_bytes.specs.declared.profile.Profile.{Profile}
use Rattle.text_bytes.specs.declared.profile.Profile.TheVariants.{Manual, Udev}
use Rattle.text_bytes.specs.Text.{Text}
use Rattle.builtin_devices.specs.Knowledge.{Known}
use Rattle.device_core.specs.Values.{EventValue}
use Rattle.rule_types.specs.declared.part.Act.{Act}
use Rattle.rule_types.specs.declared.part.ActKind.{ActKind}
use Rattle.rule_types.specs.declared.part.ActKind.TheVariants as act_kind
use Rattle.rule_types.specs.declared.part.Import.{Import}
use Rattle.rule_types.specs.declared.part.Import.TheVariants as import
use Rattle.rule_types.specs.Rules.{Rule}
use Rattle.eval_rendering.specs.declared.rendered.Rendered.{Rendered}
use Rattle.eval_rendering.specs.declared.rendered.Rendered.TheVariants as rendered
use Rattle.eval_state.specs.Notes.{note_about}
use Rattle.eval_state.specs.Runs.{RunValue}
use Rattle.eval_state.specs.Scenes.{start}
use Rattle.eval_state.specs.declared.note_kind.NoteKind.TheVariants.{NoAnswer}
use Rattle.eval_state.specs.declared.notes.Note.{Note}
use Rattle.eval_state.specs.declared.scene.Scene.{Scene}
use Rattle.eval_state.specs.declared.state.State.{State}
use Rattle.eval_acts.specs.ActTexts.{program_text, test_text}
use Rattle.eval_acts.specs.Acts.{act_step, import_reached, imported, on_text, performed}
use Rattle.eval_acts.specs.Inner.{left}
use Rattle.eval_acts.specs.Questions.{tested}
use Rattle.eval_rules.specs.Idle.{is_idle_by}
use Rattle.eval_rules.specs.Jumps.{is_passed, run, sought_after}
use Rattle.eval_rules.specs.Outcomes.{late_note, late_notes, outcome, outcome_of, run_text}
use Rattle.eval_rules.specs.Steps.{Went, apply, before_sets, if_proceeding, only_noted, result_step, set_all, steps, walk}
use Rattle.eval_rules.proofs.Staying.{act_stays, event_stays, tried_stays}
use Rattle.eval_courses.specs.Courses.{reports_if_proceeding, searched, walk_reports}
use Rattle.eval_courses.specs.Questions.{act_asks, acts_ask, import_asks, rule_asks, rules_ask}
use Rattle.eval_laws.specs.Noted.{is_no_answer}
use Rattle.eval_laws.proofs.Noting.{by_text}
use Rattle.eval_laws.proofs.Unanswered.{before_stays}
use Rattle.eval_laws.proofs.Quiet.{Quiet, text_quiet, tested_quiet, imported_quiet, if_proceeding_quiet, before_quiet, results_quiet, sets_quiet}

abbrev word : Note → Text
word note = note.word

abbrev no_answers : Scene → List Text
no_answers s = map word (filter is_no_answer s.notes)

abbrev Says : Scene → List Text → Scene → Type 0
Says s asked t = no_answers t ≡ no_answers s ++ map word_of asked

says_nothing : (s : Scene) → Says s [] s
says_nothing s = sym (append-nil (no_answers s))

quiet_says : (s t : Scene) → Quiet s t → Says s [] t
quiet_says s t h = ap (map word) h ∙ says_nothing s

quiet_first : (s t u : Scene) (asked : List Text) → Quiet s t → Says t asked u → Says s asked u
quiet_first s t u asked h k = k ∙ ap (λ notes. map word notes ++ map word_of asked) h

quiet_last : (s t u : Scene) (asked : List Text) → Says s asked t → Quiet t u → Says s asked u
quiet_last s t u asked h k = ap (map word) k ∙ h

both_say : (s t u : Scene) (asked more : List Text) → Says s asked t → Says t more u → Says s (asked ++ more) u
both_say s t u asked more h k =
    k
    ∙ ap (λ words. words ++ map word_of more) h
    ∙ append_assoc (no_answers s) (map word_of asked) (map word_of more)
    ∙ ap (λ words. no_answers s ++ words) (sym (map-append word_of asked more))

words_are : (r : Rule) (asked : List Text) → map word (map (note_about r NoAnswer) asked) ≡ map word_of asked
words_are r [] = refl
words_are r (command ∷ asked) = ap (λ words. word_of command ∷ words) (words_are r asked)

-- by the manual an IMPORT leaves nothing by being reached
none_reached : (p : Profile) (r : Rule) (i : Import) (s : Scene) → p ≡ Manual → import_reached p r i s ≡ s
none_reached Manual r (import.Builtin t) s m = refl
none_reached Manual r i s m = refl
none_reached Udev r i s m = absurd (cc)

act_kind_says : (known : Known) (r : Rule) (d : ActKind) (s : Scene) → s.state.event.profile ≡ Manual → Says s (act_asks d s.state) (left r d (performed known r d s))
act_kind_says known r (act_kind.Test mask t) s m = quiet_says s (left r (act_kind.Test mask t) (on_text (tested r mask) (test_text t s.state) s)) (text_quiet r (act_kind.Test mask t) (tested r mask) (tested_quiet r mask) (test_text t s.state) s)
act_kind_says known r (act_kind.Program t) s m =
    ap (map word) (by_text r (act_kind.Program t) (program_text t s.state) s)
    ∙ map-append word (filter is_no_answer s.notes) (map (note_about r NoAnswer) (act_asks (act_kind.Program t) s.state))
    ∙ ap (λ words. no_answers s ++ words) (words_are r (act_asks (act_kind.Program t) s.state))
act_kind_says known r (act_kind.Import i) s m =
    quiet_says s (left r (act_kind.Import i) (imported s.state.event.profile known r i (import_reached s.state.event.profile r i s)))
    (ap (λ (t : Scene). filter is_no_answer (left r (act_kind.Import i) (imported s.state.event.profile known r i t)).notes) (none_reached s.state.event.profile r i s m)
    ∙ imported_quiet s.state.event.profile known r (act_kind.Import i) i s m)
    ∙ ap (λ asked. no_answers s ++ map word_of asked) (sym (ap (λ p. import_asks p i s.state) m))

act_says : (known : Known) (r : Rule) (act : Act) (s : Scene) → s.state.event.profile ≡ Manual → Says s (act_asks act.kind s.state) (act_step known r act s).0
unfolding act_step
act_says known r act s m = act_kind_says known r act.kind s m

if_proceeding_says : (f : Scene → List Text) (g : Scene → Went) → ((t : Scene) → t.state.event.profile ≡ Manual → Says t (f t) (g t).0) → (w : Went) → w.0.state.event.profile ≡ Manual
    → Says w.0 (reports_if_proceeding f w) (if_proceeding g w).0
if_proceeding_says f g h w m = by w.1
  where
    by : (b : Bool) → Says w.0 (cond b (f w.0) []) (cond b (g w.0) w).0
    by true = h w.0 m
    by false = says_nothing w.0

acts_say : (known : Known) (r : Rule) (acts : List Act) (s : Scene) → s.state.event.profile ≡ Manual → Says s (acts_ask known r acts s) (walk (act_step known r) acts s).0
unfolding walk_reports walk
acts_say known r [] s m = says_nothing s
acts_say known r (act ∷ acts) s m =
    both_say s (act_step known r act s).0 (if_proceeding (walk (act_step known r) acts) (act_step known r act s)).0 (act_asks act.kind s.state) (reports_if_proceeding (acts_ask known r acts) (act_step known r act s)) (act_says known r act s m)
    (if_proceeding_says (acts_ask known r acts) (walk (act_step known r) acts) (acts_say known r acts) (act_step known r act s) (ap (λ (e : EventValue). e.profile) (act_stays known r act s) ∙ m))

keys_say : (known : Known) (r : Rule) (s : Scene) → s.state.event.profile ≡ Manual → Says s (rule_asks known r s) (before_sets known r s).0
unfolding rule_asks
keys_say known r s m =
    let acted : Went = if_proceeding (walk (act_step known r) r.acts) (searched r s) in
    quiet_last s acted.0 (before_sets known r s).0 (reports_if_proceeding (acts_ask known r r.acts) (searched r s))
    (quiet_first s (searched r s).0 acted.0 (reports_if_proceeding (acts_ask known r r.acts) (searched r s)) (before_quiet r s)
    (if_proceeding_says (acts_ask known r r.acts) (walk (act_step known r) r.acts) (acts_say known r r.acts) (searched r s) (ap (λ (e : EventValue). e.profile) (before_stays r s) ∙ m)))
    (if_proceeding_quiet (walk result_step r.results) (results_quiet r.results) acted.0 acted refl)

steps_say : (known : Known) (r : Rule) (s : Scene) → s.state.event.profile ≡ Manual → Says s (rule_asks known r s) (steps known r s).0
unfolding steps
steps_say known r s m = quiet_last s (before_sets known r s).0 (if_proceeding (set_all r) (before_sets known r s)).0 (rule_asks known r s) (keys_say known r s m) (by (before_sets known r s).1)
  where
    by : (b : Bool) → Quiet (before_sets known r s).0 (cond b (set_all r (before_sets known r s).0) (before_sets known r s)).0
    by true = sets_quiet r r.sets (before_sets known r s).0 (ap (λ (e : EventValue). e.profile) (tried_stays known r s) ∙ m)
    by false = refl

never_idle : (r : Rule) (event : EventValue) → is_idle_by Manual r event ≡ false
unfolding is_idle_by
never_idle r event = refl

rule_says : (known : Known) (r : Rule) (s : Scene) → s.state.event.profile ≡ Manual → Says s (rule_asks known r s) (apply known r s).0
unfolding apply
rule_says known r s m =
    let idle : is_idle_by s.state.event.profile r s.state.event ≡ false = ap (λ p. is_idle_by p r s.state.event) m ∙ never_idle r s.state.event in
    ap (λ b. no_answers (cond b (only_noted known r s) (steps known r s)).0) idle ∙ steps_say known r s m

rules_say : (known : Known) (sought : Option Text) (rules : List Rule) (s : Scene) → s.state.event.profile ≡ Manual → Says s (rules_ask known sought rules s) (run known sought rules s)
unfolding rules_ask run
rules_say known sought [] s m = says_nothing s
rules_say known sought (r ∷ rs) s m =
    by (rules_ask known sought rs s) _ (run known sought rs s) _ (is_passed sought r) (rules_say known sought rs s m)
    (both_say s (apply known r s).0 (run known (sought_after (apply known r s).1 r) rs (apply known r s).0) (rule_asks known r s) (rules_ask known (sought_after (apply known r s).1 r) rs (apply known r s).0) (rule_says known r s m)
    (rules_say known (sought_after (apply known r s).1 r) rs (apply known r s).0 (ap (λ (e : EventValue). e.profile) (event_stays known r s) ∙ m)))
  where
    by : (xs ys : List Text) (t u : Scene) (p : Bool) → Says s xs t → Says s ys u → Says s (cond p xs ys) (cond p t u)
    by xs ys t u true h k = h
    by xs ys t u false h k = k

late_quiet : (state : State) (runs : List RunValue) → filter is_no_answer (late_notes state runs) ≡ []
late_quiet state [] = refl
late_quiet state (kept ∷ runs) = filter-append is_no_answer (late_note kept (run_text state kept)) (late_notes state runs) ∙ by (run_text state kept) ∙ late_quiet state runs
  where
    by : (text : Rendered) → filter is_no_answer (late_note kept text) ++ filter is_no_answer (late_notes state runs) ≡ filter is_no_answer (late_notes state runs)
    by (rendered.Text text) = refl
    by rendered.TooLong = refl

ended : (s : Scene) → filter is_no_answer (outcome_of s).notes ≡ filter is_no_answer s.notes
unfolding outcome_of
ended s =
    filter-append is_no_answer s.notes (late_notes s.state s.runs)
    ∙ ap (λ notes. filter is_no_answer s.notes ++ notes) (late_quiet s.state s.runs)
    ∙ append-nil (filter is_no_answer s.notes)

-- the notes of an event that a command has no answer are those of what its rules ask
pub asked_is_noted : (rules : List Rule) (known : Known) (event : EventValue) → event.profile ≡ Manual
    → map (λ (n : Note). n.word) (filter is_no_answer (outcome rules known event).notes) ≡ map word_of (rules_ask known None rules (start event))
asked_is_noted rules known event m = ap (map word) (ended (run known None rules (start event))) ∙ rules_say known None rules (start event) m
