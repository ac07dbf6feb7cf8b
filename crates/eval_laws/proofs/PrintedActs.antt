-- IMPORT{program} takes what its command printed, or changes nothing.
use Rattle.std.proofs.Common.{◌≡◌, ◌⊎◌, inl, inr, ℕ, ◌==◌, Bool, true, false, Option, Some, None, if◌then◌else◌, refl, sym, ap, ◌∙◌, true≢false}
use Rattle.std.proofs.lemmas.Bool.{eqb-true}
use Rattle.text_bytes.specs.declared.profile.Profile.TheVariants.{Udev}
use Rattle.text_bytes.specs.Text.{Text}
use Rattle.text_tables.specs.Pairs.{value_of}
use Rattle.device_core.specs.Values.{AnswerValue}
use Rattle.builtin_devices.specs.Knowledge.{Known}
use Rattle.rule_tokens.specs.Template.{Parts as Template}
use Rattle.rule_types.specs.declared.part.ActKind.{ActKind}
use Rattle.rule_types.specs.declared.part.ActKind.TheVariants as act_kind
use Rattle.rule_types.specs.declared.part.Import.TheVariants as import
use Rattle.rule_types.specs.declared.roles.MatchOperator.{MatchOperator}
use Rattle.rule_types.specs.declared.roles.MatchOperator.TheVariants.{Equal}
use Rattle.rule_types.specs.Rules.{Rule}
use Rattle.eval_rendering.specs.Bounds.{most_command_bytes}
use Rattle.eval_rendering.specs.declared.rendered.Rendered.{Rendered}
use Rattle.eval_rendering.specs.declared.rendered.Rendered.TheVariants as outcome
use Rattle.eval_state.specs.Properties.{properties_set}
use Rattle.eval_state.specs.Scenes.{with_env}
use Rattle.eval_state.specs.declared.scene.Scene.{Scene}
use Rattle.eval_rendering.specs.Holding.{agrees}
use Rattle.eval_acts.specs.ActTexts.{import_text}
use Rattle.eval_acts.specs.Acts as acts
use Rattle.eval_acts.specs.Acts.{act_step, imported, proceeds, on_text}
use Rattle.eval_acts.specs.Inner.{left}
use Rattle.eval_state.specs.declared.note_kind.NoteKind.TheVariants.{NoAnswer}
use Rattle.eval_acts.specs.Imports.{from_answer_or_noted, from_program}
use Rattle.eval_acts.specs.Printed.{printed_properties}
use Rattle.eval_laws.specs.PrintedLines.{IsPrinted, program_import}

-- an answer with a status and a text
abbrev answer_with : ℕ → Text → Option AnswerValue
answer_with n t = Some (record { status = n; text = t })

module _ (r : Rule) (operator : MatchOperator) (template : Template) (s : Scene) where
  abbrev here : ActKind
  here = act_kind.Import (import.Program template)

  -- a scene with the properties of what was printed
  abbrev taken : Text → Scene
  taken text = with_env (properties_set s.state.env (printed_properties text)) s

  -- the scene after the import and whether the rule goes on, by whether it was done
  abbrev after : Scene × Option Bool → Scene × Bool
  after went = (left r here went, proceeds went.1 s.state.event.profile operator)

  -- the result of the import with udev, by how its command is rendered
  came : Rendered → Scene × Bool
  came given = after (on_text (from_program r) given s)

  -- the result of an answer, or of none
  went_by : Scene × Bool → Scene × Bool
  went_by went = after (acts.tried went)

  step_is : (known : Known) → s.state.event.profile ≡ Udev → act_step known r (program_import operator template) s ≡ came (import_text most_command_bytes template s.state)
  unfolding act_step came
  step_is known e = ap (λ p. after (imported p known r (import.Program template) s)) e

  came_answered : (text : Text) → IsPrinted template s text → came (import_text most_command_bytes template s.state) ≡ (taken text, agrees operator true)
  unfolding came
  came_answered text h =
      ap (λ given. after (on_text (from_program r) given s)) h.rendered
      ∙ ap (λ answer. after (acts.tried (from_answer_or_noted r NoAnswer h.command answer s))) h.answered

  pub answered : (known : Known) (text : Text) → s.state.event.profile ≡ Udev → IsPrinted template s text
      → act_step known r (program_import operator template) s ≡ (taken text, agrees operator true)
  answered known text e h = step_is known e ∙ came_answered text h

-- with `==`
module _ (r : Rule) (template : Template) (s : Scene) where
  -- The act stops the rule and leaves the state as it is.
  record Fails (went : Scene × Bool) : Type 0 where
    stops : went.1 ≡ false
    same : went.0.state ≡ s.state

  by_status : (command : Text) (answer : AnswerValue) → import_text most_command_bytes template s.state ≡ outcome.Text command → value_of s.state.event.programs command ≡ Some answer
      → (b : Bool) → (answer.status == 0) ≡ b
      → ((text : Text) × IsPrinted template s text)
      ⊎ Fails (went_by r Equal template s (if◌then◌else◌ {A = Scene × Bool} b (taken r Equal template s answer.text, true) (s, false)))
  unfolding went_by
  by_status command answer e there true zero =
      inl (answer.text, record { command = command; rendered = e; answered = there ∙ ap (λ (n : ℕ). answer_with n answer.text) (eqb-true answer.status 0 zero) })
  by_status command answer e there false other = inr (record { stops = refl; same = refl })

  by_answer : (command : Text) → import_text most_command_bytes template s.state ≡ outcome.Text command → (answer : Option AnswerValue) → value_of s.state.event.programs command ≡ answer
      → ((text : Text) × IsPrinted template s text) ⊎ Fails (went_by r Equal template s (from_answer_or_noted r NoAnswer command answer s))
  unfolding went_by
  by_answer command e None there = inr (record { stops = refl; same = refl })
  by_answer command e (Some answer) there = by_status command answer e there (answer.status == 0) refl

  by_command : s.state.event.profile ≡ Udev → (given : Rendered) → import_text most_command_bytes template s.state ≡ given
      → ((text : Text) × IsPrinted template s text) ⊎ Fails (came r Equal template s given)
  unfolding came went_by
  by_command p (outcome.Text command) e = by_answer command e (value_of s.state.event.programs command) refl
  by_command p outcome.TooLong e = inr (record { stops = ap (λ profile. proceeds None profile Equal) p; same = refl })

  module _ (known : Known) (p : s.state.event.profile ≡ Udev) where
    is_printed : ((text : Text) × IsPrinted template s text) ⊎ Fails (came r Equal template s (import_text most_command_bytes template s.state))
    is_printed = by_command p (import_text most_command_bytes template s.state) refl

    pub holds : (act_step known r (program_import Equal template) s).1 ≡ true → (text : Text) × IsPrinted template s text
    holds e = by is_printed
      where
        by : ((text : Text) × IsPrinted template s text) ⊎ Fails (came r Equal template s (import_text most_command_bytes template s.state)) → (text : Text) × IsPrinted template s text
        by (inl h) = h
        by (inr f) = absurd (true≢false (sym e ∙ ap (λ went. went.1) (step_is r Equal template s known p) ∙ f.stops))

    pub failed : (act_step known r (program_import Equal template) s).1 ≡ false → (act_step known r (program_import Equal template) s).0.state ≡ s.state
    failed e = by is_printed
      where
        by : ((text : Text) × IsPrinted template s text) ⊎ Fails (came r Equal template s (import_text most_command_bytes template s.state)) → (act_step known r (program_import Equal template) s).0.state ≡ s.state
        by (inl h) = absurd (true≢false (sym (ap (λ went. went.1) (answered r Equal template s known h.0 p h.1)) ∙ e))
        by (inr f) = ap (λ went. went.0.state) (step_is r Equal template s known p) ∙ f.same
