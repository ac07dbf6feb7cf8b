-- PROGRAM is answered, or fails and leaves no result.
use Rattle.std.proofs.Common.{◌≡◌, ◌⊎◌, inl, inr, ℕ, ◌==◌, Bool, true, false, [], Option, Some, None, if◌then◌else◌, refl, sym, ap, ◌∙◌, true≢false}
use Rattle.std.proofs.lemmas.Bool.{eqb-true}
use Rattle.text_bytes.specs.Text.{Text}
use Rattle.text_tables.specs.Pairs.{value_of}
use Rattle.device_core.specs.Values.{AnswerValue}
use Rattle.builtin_devices.specs.Knowledge.{Known}
use Rattle.rule_tokens.specs.Template.{Parts as Template}
use Rattle.rule_types.specs.declared.part.ActKind.TheVariants as act_kind
use Rattle.rule_types.specs.Rules.{Rule}
use Rattle.eval_state.specs.declared.scene.Scene.{Scene}
use Rattle.eval_rendering.specs.declared.rendered.Rendered.{Rendered}
use Rattle.eval_rendering.specs.declared.rendered.Rendered.TheVariants as outcome
use Rattle.text_bytes.specs.declared.profile.Profile.{Profile}
use Rattle.text_bytes.specs.declared.profile.Profile.TheVariants.{Manual, Udev}
use Rattle.eval_acts.specs.ActTexts.{program_text}
use Rattle.eval_acts.specs.Acts as acts
use Rattle.eval_acts.specs.Acts.{act_step, proceeds, on_text}
use Rattle.eval_acts.specs.Inner.{left}
use Rattle.eval_acts.specs.Questions.{answered_by_block, answered_or_noted, result_of, with_result}
use Rattle.rule_types.specs.declared.roles.MatchOperator.TheVariants.{Equal}
use Rattle.eval_laws.specs.Answered.{IsAnswered, program}

-- an answer with a status and a text
abbrev answer_with : ℕ → Text → Option AnswerValue
answer_with n t = Some (record { status = n; text = t })

module _ (r : Rule) (template : Template) (s : Scene) where
  -- the scene after PROGRAM and whether the rule goes on, by whether it was done
  abbrev after : Scene × Option Bool → Scene × Bool
  after went = (left r (act_kind.Program template) went, proceeds went.1 s.state.event.profile Equal)

  -- the result of PROGRAM, by how its command is rendered
  came : Rendered → Scene × Bool
  came given = after (on_text (answered_by_block r) given (with_result [] s))

  -- the result of an answer, or of none
  went_by : Scene × Bool → Scene × Bool
  went_by went = after (acts.tried went)

  -- The act stops the rule and leaves no result.
  record Fails (went : Scene × Bool) : Type 0 where
    stops : went.1 ≡ false
    empty : went.0.state.result ≡ []

  by_status : (command : Text) (answer : AnswerValue) → program_text template s.state ≡ outcome.Text command → value_of s.state.event.programs command ≡ Some answer
      → (b : Bool) → (answer.status == 0) ≡ b
      → ((text : Text) × IsAnswered template s text)
      ⊎ Fails (went_by (if◌then◌else◌ {A = Scene × Bool} b (with_result (result_of s.state.event.profile answer.text) (with_result [] s), true) (with_result [] s, false)))
  unfolding went_by
  by_status command answer e there true zero =
      inl (answer.text, record { command = command; rendered = e; answered = there ∙ ap (λ (n : ℕ). answer_with n answer.text) (eqb-true answer.status 0 zero) })
  by_status command answer e there false other = inr (record { stops = refl; empty = refl })

  by_answer : (command : Text) → program_text template s.state ≡ outcome.Text command → (answer : Option AnswerValue) → value_of s.state.event.programs command ≡ answer
      → ((text : Text) × IsAnswered template s text) ⊎ Fails (went_by (answered_or_noted r command answer (with_result [] s)))
  unfolding went_by
  by_answer command e None there = inr (record { stops = refl; empty = refl })
  by_answer command e (Some answer) there = by_status command answer e there (answer.status == 0) refl

  too_long_stops : (profile : Profile) → proceeds None profile Equal ≡ false
  too_long_stops Manual = refl
  too_long_stops Udev = refl

  by_command : (given : Rendered) → program_text template s.state ≡ given → ((text : Text) × IsAnswered template s text) ⊎ Fails (came given)
  unfolding came went_by
  by_command (outcome.Text command) e = by_answer command e (value_of s.state.event.programs command) refl
  by_command outcome.TooLong e = inr (record { stops = too_long_stops s.state.event.profile; empty = refl })

  module _ (known : Known) where
    pub answered : (text : Text) → IsAnswered template s text → act_step known r (program template) s ≡ (with_result (result_of s.state.event.profile text) s, true)
    unfolding act_step
    answered text h =
        ap (λ given. after (on_text (answered_by_block r) given (with_result [] s))) h.rendered
        ∙ ap (λ answer. after (acts.tried (answered_or_noted r h.command answer (with_result [] s)))) h.answered

    is_answered : ((text : Text) × IsAnswered template s text) ⊎ Fails (act_step known r (program template) s)
    unfolding act_step came
    is_answered = by_command (program_text template s.state) refl

    pub holds : (act_step known r (program template) s).1 ≡ true → (text : Text) × IsAnswered template s text
    holds e = by is_answered
      where
        by : ((text : Text) × IsAnswered template s text) ⊎ Fails (act_step known r (program template) s) → (text : Text) × IsAnswered template s text
        by (inl h) = h
        by (inr f) = absurd (true≢false (sym e ∙ f.stops))

    pub failed : (act_step known r (program template) s).1 ≡ false → (act_step known r (program template) s).0.state.result ≡ []
    failed e = by is_answered
      where
        by : ((text : Text) × IsAnswered template s text) ⊎ Fails (act_step known r (program template) s) → (act_step known r (program template) s).0.state.result ≡ []
        by (inl h) = absurd (true≢false (sym (ap (λ went. went.1) (answered h.0 h.1)) ∙ e))
        by (inr f) = f.empty
