-- The note that is left follows those that there were.
use Rattle.std.proofs.Common.{◌≡◌, true, false, cond, List, [], ◌∷◌, ◌++◌, length, slice_get, Option, Some, None, option_map, refl, ap, ◌∙◌}
use Rattle.text_bytes.specs.declared.profile.Profile.{Profile}
use Rattle.text_bytes.specs.declared.profile.Profile.TheVariants.{Manual, Udev}
use Rattle.text_bytes.specs.Text.{Text}
use Rattle.rule_tokens.specs.Template.{Parts as Template}
use Rattle.rule_types.specs.Rules.{Rule}
use Rattle.rule_types.specs.Written.{attribute_of_target, key_of_target}
use Rattle.rule_types.specs.declared.roles.AssignOperator.{AssignOperator}
use Rattle.rule_types.specs.declared.roles.AssignOperator.TheVariants.{Assign, AssignFinal}
use Rattle.rule_types.specs.declared.roles.Target.{Target}
use Rattle.rule_types.specs.declared.roles.Target.TheVariants as target
use Rattle.rule_types.specs.declared.part.Change.TheVariants as change
use Rattle.eval_rendering.specs.declared.rendered.Rendered.{Rendered}
use Rattle.eval_rendering.specs.declared.rendered.Rendered.TheVariants as rendered
use Rattle.eval_state.specs.Notes.{note_about, word_of_key}
use Rattle.eval_state.specs.Scenes.{noted, noted_key}
use Rattle.eval_state.specs.declared.finals.FinalKey.{FinalKey}
use Rattle.eval_state.specs.declared.note_kind.NoteKind.{NoteKind}
use Rattle.eval_state.specs.declared.note_kind.NoteKind.TheVariants.{TextTooLong, NameIgnored, NoDeviceNumber}
use Rattle.eval_state.specs.declared.notes.Note.{Note}
use Rattle.eval_state.specs.declared.scene.Scene.{Scene}
use Rattle.eval_assignments.specs.Assigning.{assigned}
use Rattle.eval_assignments.specs.Escapes.{escape_of}
use Rattle.eval_assignments.specs.Finality.{final_target, finally, is_settled}
use Rattle.eval_assignments.specs.Inner.{given_by}
use Rattle.eval_assignments.specs.Steps.{emptied, finally_too_long, is_ignored, set_step, step_by, text_rendered, text_set, text_step}
use Rattle.eval_effects.specs.Laws.{ReportsIgnored, ReportsNone, ReportsSkipped, ReportsTooLong, is_skipped, rendered_of}

none_after : (notes : List Note) → slice_get notes (length notes) ≡ None
none_after [] = refl
none_after (note ∷ notes) = none_after notes

one_after : (notes : List Note) (last : Note) → slice_get (notes ++ last ∷ []) (length notes) ≡ Some last
one_after [] last = refl
one_after (note ∷ notes) last = one_after notes last

pub reports_none : ReportsNone
reports_none s t same = ap (λ notes. slice_get notes (length s.notes)) same ∙ none_after s.notes

-- a note that follows those that there were
reported : (kind : NoteKind) (word : Text) (r : Rule) (s t : Scene) → t.notes ≡ s.notes ++ note_about r kind word ∷ [] → option_map (λ (note : Note). note.kind) (slice_get t.notes (length s.notes)) ≡ Some kind
reported kind word r s t e =
    ap (λ notes. option_map (λ (note : Note). note.kind) (slice_get notes (length s.notes))) e
    ∙ ap (option_map (λ (note : Note). note.kind)) (one_after s.notes (note_about r kind word))

same_finally : (o : AssignOperator) (k : Option FinalKey) (s : Scene) → (finally o k s).notes ≡ s.notes
same_finally AssignFinal None s = refl
same_finally AssignFinal (Some k) s = refl
same_finally o k s = refl

same_too_long : (profile : Profile) (o : AssignOperator) (about : Target) (s : Scene) → (finally_too_long profile o about s).notes ≡ s.notes
same_too_long Manual o about s = refl
same_too_long Udev o about s = same_finally o (final_target about) s

same_emptied : (o : AssignOperator) (about : Target) (s : Scene) → (emptied o about s).notes ≡ s.notes
same_emptied Assign target.Symlink s = refl
same_emptied AssignFinal target.Symlink s = refl
same_emptied o about s = refl

module _ (r : Rule) (o : AssignOperator) (about : Target) (template : Template) where
  -- the scene that a text is assigned over
  before : Profile → Scene → Scene
  before Manual s = s
  before Udev s = emptied o about s

  same_before : (profile : Profile) (s : Scene) → (before profile s).notes ≡ s.notes
  unfolding before
  same_before Manual s = refl
  same_before Udev s = same_emptied o about s

  -- an assignment of a text that is not skipped
  step_over : (profile : Profile) (s : Scene) → is_skipped profile about s ≡ false
      → text_step profile (given_by r (escape_of r.sets) o about template.written) template s ≡ text_set profile (given_by r (escape_of r.sets) o about template.written) (rendered_of profile r o about template s) (before profile s)
  unfolding before
  step_over Manual s free = refl
  step_over Udev s free =
      ap (λ b. cond b (noted_key r NoDeviceNumber (key_of_target about) (attribute_of_target about) s) (text_rendered Udev (given_by r (escape_of r.sets) o about template.written) template (emptied o about s))) free

  too_long_notes : (profile : Profile) (s t : Scene) → t ≡ text_set profile (given_by r (escape_of r.sets) o about template.written) rendered.TooLong (before profile s)
      → t.notes ≡ s.notes ++ note_about r TextTooLong (word_of_key (key_of_target about) (attribute_of_target about)) ∷ []
  too_long_notes profile s t e =
      ap (λ (u : Scene). u.notes) e
      ∙ same_too_long profile o about (noted r TextTooLong (word_of_key (key_of_target about) (attribute_of_target about)) (before profile s))
      ∙ ap (λ notes. notes ++ note_about r TextTooLong (word_of_key (key_of_target about) (attribute_of_target about)) ∷ []) (same_before profile s)

  skipped : (profile : Profile) (s : Scene) → is_skipped profile about s ≡ true
      → text_step profile (given_by r (escape_of r.sets) o about template.written) template s ≡ noted_key r NoDeviceNumber (key_of_target about) (attribute_of_target about) s
  skipped Manual s over = cc
  skipped Udev s over =
      ap (λ b. cond b (noted_key r NoDeviceNumber (key_of_target about) (attribute_of_target about) s) (text_rendered Udev (given_by r (escape_of r.sets) o about template.written) template (emptied o about s))) over

  step_free : (s : Scene) → is_settled (final_target about) s.finals ≡ false
      → set_step r s (record { operator = o; change = change.Text about template }) ≡ text_step s.state.event.profile (given_by r (escape_of r.sets) o about template.written) template s
  unfolding set_step
  step_free s free = ap (λ b. cond b s (step_by s.state.event.profile r o (change.Text about template) s)) free

  ignored_same : (profile : Profile) (s : Scene) → is_ignored profile about (before profile s) ≡ is_ignored profile about s
  unfolding before
  ignored_same Manual s = refl
  ignored_same Udev s = by o about
    where
      by : (o : AssignOperator) (about : Target) → is_ignored Udev about (emptied o about s) ≡ is_ignored Udev about s
      by Assign target.Symlink = refl
      by AssignFinal target.Symlink = refl
      by o about = refl

pub reports_skipped : ReportsSkipped
reports_skipped r o about template s free over =
    reported NoDeviceNumber (word_of_key (key_of_target about) (attribute_of_target about)) r s (set_step r s (record { operator = o; change = change.Text about template }))
    (ap (λ (u : Scene). u.notes) (step_free r o about template s free ∙ skipped r o about template s.state.event.profile s over))

pub reports_too_long : ReportsTooLong
reports_too_long r o about template s free over long =
    reported TextTooLong (word_of_key (key_of_target about) (attribute_of_target about)) r s (set_step r s (record { operator = o; change = change.Text about template }))
    (too_long_notes r o about template s.state.event.profile s (set_step r s (record { operator = o; change = change.Text about template }))
    (step_free r o about template s free ∙ step_over r o about template s.state.event.profile s over
    ∙ ap (λ (given : Rendered). text_set s.state.event.profile (given_by r (escape_of r.sets) o about template.written) given (before r o about template s.state.event.profile s)) long))

pub reports_ignored : ReportsIgnored
reports_ignored r o about template s t free over made ignored =
    let profile : Profile = s.state.event.profile in
    let u : Scene = before r o about template profile s in
    reported NameIgnored t r s (set_step r s (record { operator = o; change = change.Text about template }))
    (ap (λ (u : Scene). u.notes)
    (step_free r o about template s free ∙ step_over r o about template profile s over
    ∙ ap (λ (given : Rendered). text_set profile (given_by r (escape_of r.sets) o about template.written) given u) made
    ∙ ap (λ b. cond b (noted r NameIgnored t u) (finally o (final_target about) (assigned profile about (given_by r (escape_of r.sets) o about template.written) t u)))
    (ignored_same r o about template profile s ∙ ignored))
    ∙ ap (λ notes. notes ++ note_about r NameIgnored t ∷ []) (same_before r o about template profile s))
