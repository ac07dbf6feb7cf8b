-- One assignment of a rule.
use Rattle.std.specs.Prelude.{Bool, true, false, not, if◌then◌else◌, [], Option, Some, None}
use Rattle.text_bytes.specs.declared.profile.Profile.{Profile}
use Rattle.text_bytes.specs.declared.profile.Profile.TheVariants.{Manual, Udev}
use Rattle.text_bytes.specs.Text.{Text}
use Rattle.rule_types.specs.Written.{attribute_of_target, key_of_target}
use Rattle.rule_types.specs.declared.roles.AssignOperator.{AssignOperator}
use Rattle.rule_types.specs.declared.roles.AssignOperator.TheVariants.{Assign, AssignFinal}
use Rattle.rule_types.specs.declared.roles.Target.{Target}
use Rattle.rule_types.specs.declared.roles.Target.TheVariants as target
use Rattle.rule_types.specs.declared.types.RunType.{RunType}
use Rattle.rule_tokens.specs.Template.{Parts as Template}
use Rattle.rule_types.specs.declared.part.Assignment.{Assignment}
use Rattle.rule_types.specs.declared.part.Change.{Change}
use Rattle.rule_types.specs.declared.part.Change.TheVariants as change
use Rattle.rule_types.specs.Rules.{Rule}
use Rattle.device_core.specs.Values.{NumberValue}
use Rattle.eval_rendering.specs.Bounds.{within}
use Rattle.eval_rendering.specs.Rendering.{render}
use Rattle.eval_rendering.specs.declared.rendered.Rendered.{Rendered}
use Rattle.eval_rendering.specs.declared.rendered.Rendered.TheVariants as rendered
use Rattle.eval_state.specs.Scenes.{noted, noted_key}
use Rattle.eval_state.specs.declared.note_kind.NoteKind.TheVariants.{NameIgnored, NoDeviceNumber, TextTooLong}
use Rattle.eval_state.specs.declared.scene.Scene.{Scene}
use Rattle.eval_assignments.specs.Assigning.{assigned, with_option}
use Rattle.eval_assignments.specs.Bounds.{most_bytes_of}
use Rattle.eval_assignments.specs.Escapes.{escape_of, mode_of}
use Rattle.eval_assignments.specs.Finality.{final_key, final_option, final_target, finally, is_settled}
use Rattle.eval_assignments.specs.Givens.{Given}
use Rattle.eval_assignments.specs.Names.{has_name}
use Rattle.eval_assignments.specs.Runs.{run_kept, run_rendered}

-- whether an assignment is ignored: NAME if the event device has no name to assign
abbrev pub is_ignored : Profile → Target → Scene → Bool
is_ignored profile target.Name s = not (has_name profile s.state.event.device)
is_ignored profile t s = false

-- an assignment of a text that is not too long; one that is ignored leaves a note, and makes nothing final
abbrev pub text_given : Profile → Given → Text → Scene → Scene
text_given profile g t s =
    if is_ignored profile g.target s then noted g.rule NameIgnored t s
    else finally g.operator (final_target g.target) (assigned profile g.target g t s)

-- what follows an assignment of a text that is too long: for the manual nothing is made final, for udev its key
-- nevertheless is
abbrev pub finally_too_long : Profile → AssignOperator → Target → Scene → Scene
finally_too_long Manual o about s = s
finally_too_long Udev o about s = finally o (final_target about) s

-- an assignment of a text once it is rendered; one that is too long leaves a note
abbrev pub text_set : Profile → Given → Rendered → Scene → Scene
text_set profile g (rendered.Text t) s = text_given profile g t s
text_set profile g rendered.TooLong s =
    finally_too_long profile g.operator g.target (noted_key g.rule TextTooLong (key_of_target g.target) (attribute_of_target g.target) s)

-- whether udev does nothing with a text if the device has no number: one for its node or for links to that
abbrev pub is_of_node : Target → Bool
is_of_node target.Owner = true
is_of_node target.Group = true
is_of_node target.Mode = true
is_of_node (target.Seclabel name) = true
is_of_node target.Symlink = true
is_of_node t = false

-- whether udev skips an assignment since the device has no number
abbrev pub lacks_number : Target → Option NumberValue → Bool
lacks_number about None = is_of_node about
lacks_number about (Some number) = false

-- a scene without links
abbrev pub without_links : Scene → Scene
without_links s = record s { state = record s.state { links = [] } }

-- what udev removes before a text is rendered: with `=` and `:=` the links, whatever the text
abbrev pub emptied : AssignOperator → Target → Scene → Scene
emptied Assign target.Symlink s = without_links s
emptied AssignFinal target.Symlink s = without_links s
emptied o about s = s

-- a text is rendered and assigned
abbrev pub text_rendered : Profile → Given → Template → Scene → Scene
text_rendered Manual g template s = text_set Manual g (render template s.state (mode_of Manual g.target g.escape)) s
text_rendered Udev g template s = text_set Udev g (within (most_bytes_of g.target) (render template s.state (mode_of Udev g.target g.escape))) s

-- an assignment of a text: udev skips some if the device has no number, and leaves a note
abbrev pub text_step : Profile → Given → Template → Scene → Scene
text_step Manual g template s = text_rendered Manual g template s
text_step Udev g template s =
    if lacks_number g.target s.state.event.device.number then noted_key g.rule NoDeviceNumber (key_of_target g.target) (attribute_of_target g.target) s
    else text_rendered Udev g template (emptied g.operator g.target s)

-- a RUN is added: as it is written, for udev rendered
abbrev pub run_step : Profile → Rule → AssignOperator → Option RunType → Template → Scene → Scene
run_step Manual r o braces template s = run_kept r o braces template s
run_step Udev r o braces template s = run_rendered r o braces template s

-- an assignment, by what it changes: an option, a text once it is rendered, or what is to be run
abbrev pub step_by : Profile → Rule → AssignOperator → Change → Scene → Scene
step_by profile r o (change.Option known) s = finally o (final_option profile known) (with_option known s)
step_by profile r o (change.Text about template) s =
    text_step profile (record { rule = r; escape = escape_of r.sets; operator = o; target = about; written = template.written }) template s
step_by profile r o (change.Run braces template) s = run_step profile r o braces template s

-- an assignment of a rule; one to a final key changes nothing
unfoldable pub set_step : Rule → Scene → Assignment → Scene
set_step r s a =
    if is_settled (final_key s.state.event.profile a.change) s.finals then s else step_by s.state.event.profile r a.operator a.change s
