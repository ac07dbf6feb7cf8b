-- Laws: since which rule a key is final, what the note that an assignment leaves says about it, and which text is shown.
use Rattle.std.specs.Prelude.{◌≡◌, ◌-◌, Bool, true, false, if◌then◌else◌, List, length, take, drop, slice_get, fold, Option, Some, None, option_map}
use Rattle.text_bytes.specs.Escapes.{unescaped}
use Rattle.text_bytes.specs.Names.{double_quote}
use Rattle.text_bytes.specs.Texts.{begins_with}
use Rattle.text_bytes.specs.declared.profile.Profile.{Profile}
use Rattle.text_bytes.specs.declared.profile.Profile.TheVariants.{Manual, Udev}
use Rattle.text_bytes.specs.Text.{Text}
use Rattle.rule_tokens.specs.Template.{Parts as Template}
use Rattle.rule_types.specs.declared.roles.AssignOperator.{AssignOperator}
use Rattle.rule_types.specs.declared.roles.Target.{Target}
use Rattle.rule_types.specs.declared.part.Change.TheVariants as change
use Rattle.rule_types.specs.Rules.{Rule}
use Rattle.eval_rendering.specs.Bounds.{within}
use Rattle.eval_rendering.specs.Rendering.{render}
use Rattle.eval_rendering.specs.declared.rendered.Rendered.{Rendered}
use Rattle.eval_rendering.specs.declared.rendered.Rendered.TheVariants as rendered
use Rattle.eval_state.specs.declared.finals.Finals.{Finals}
use Rattle.eval_state.specs.declared.note_kind.NoteKind.{NoteKind}
use Rattle.eval_state.specs.declared.note_kind.NoteKind.TheVariants.{TextTooLong, NameIgnored, NoDeviceNumber}
use Rattle.eval_state.specs.declared.scene.Scene.{Scene}
use Rattle.eval_assignments.specs.Bounds.{most_bytes_of}
use Rattle.eval_assignments.specs.Escapes.{escape_of, mode_of}
use Rattle.eval_assignments.specs.Finality.{final_target, is_settled}
use Rattle.eval_assignments.specs.Steps.{emptied, is_ignored, lacks_number, set_step}
use Rattle.eval_effects.specs.Since.{Since, no_since, since_after}

-- for each key the rule since which it is final, after rules one after another, each with the keys that are final after
-- it
abbrev pub since_over : List (Rule × Finals) → Since
since_over stages = fold (λ since stage. since_after since stage.0 stage.1) no_since stages

-- whether an assignment of a text is skipped: by udev if the device has no number
abbrev pub is_skipped : Profile → Target → Scene → Bool
is_skipped Manual about s = false
is_skipped Udev about s = lacks_number about s.state.event.device.number

-- what the text of an assignment is rendered to: by udev within its bound, and over the links that are left
abbrev pub rendered_of : Profile → Rule → AssignOperator → Target → Template → Scene → Rendered
rendered_of Manual r o about template s = render template s.state (mode_of Manual about (escape_of r.sets))
rendered_of Udev r o about template s = within (most_bytes_of about) (render template (emptied o about s).state (mode_of Udev about (escape_of r.sets)))

-- the kind of the note that an assignment of a text leaves, if it leaves one: the note after those that there were
abbrev pub note_of : Rule → AssignOperator → Target → Template → Scene → Option NoteKind
note_of r o about template s =
    option_map (λ note. note.kind) (slice_get (set_step r s (record { operator = o; change = change.Text about template })).notes (length s.notes))

-- if there are no new notes, none was left
abbrev pub ReportsNone : Type 0
ReportsNone = (s t : Scene) → t.notes ≡ s.notes → slice_get t.notes (length s.notes) ≡ None

-- an assignment that is skipped is reported as that, unless its key is final
abbrev pub ReportsSkipped : Type 0
ReportsSkipped =
    (r : Rule) (o : AssignOperator) (about : Target) (template : Template) (s : Scene) → is_settled (final_target about) s.finals ≡ false
    → is_skipped s.state.event.profile about s ≡ true
    → note_of r o about template s ≡ Some NoDeviceNumber

-- a text that is too long is reported as that, unless its key is final or it is skipped
abbrev pub ReportsTooLong : Type 0
ReportsTooLong =
    (r : Rule) (o : AssignOperator) (about : Target) (template : Template) (s : Scene) → is_settled (final_target about) s.finals ≡ false
    → is_skipped s.state.event.profile about s ≡ false
    → rendered_of s.state.event.profile r o about template s ≡ rendered.TooLong
    → note_of r o about template s ≡ Some TextTooLong

-- a NAME that is ignored is reported as that, unless its key is final, it is skipped, or its text is too long
abbrev pub ReportsIgnored : Type 0
ReportsIgnored =
    (r : Rule) (o : AssignOperator) (about : Target) (template : Template) (s : Scene) (t : Text) → is_settled (final_target about) s.finals ≡ false
    → is_skipped s.state.event.profile about s ≡ false
    → rendered_of s.state.event.profile r o about template s ≡ rendered.Text t → is_ignored s.state.event.profile about s ≡ true
    → note_of r o about template s ≡ Some NameIgnored

-- the text that is shown so, if it is not cut: what begins with a quote is between two
abbrev pub read_back : Text → Text
read_back text = if begins_with double_quote text then unescaped (take (length text - 2) (drop 1 text)) else unescaped text
