-- When an assignment to a key that is not final is made, and the scene after it.
use Rattle.std.specs.Prelude.{◌≡◌, Bool, true, false, not, ◌&&◌}
use Rattle.text_bytes.specs.declared.profile.Profile.{Profile}
use Rattle.text_bytes.specs.declared.profile.Profile.TheVariants.{Manual, Udev}
use Rattle.text_bytes.specs.Text.{Text}
use Rattle.rule_tokens.specs.Template.{Parts as Template}
use Rattle.rule_types.specs.declared.roles.AssignOperator.{AssignOperator}
use Rattle.rule_types.specs.declared.roles.AssignOperator.TheVariants.{AssignFinal}
use Rattle.rule_types.specs.declared.roles.Target.{Target}
use Rattle.rule_types.specs.declared.rule_option.RuleOption.{RuleOption}
use Rattle.rule_types.specs.declared.part.Change.{Change}
use Rattle.rule_types.specs.declared.part.Change.TheVariants as change
use Rattle.rule_types.specs.Rules.{Rule}
use Rattle.eval_state.specs.declared.scene.Scene.{Scene}
use Rattle.eval_rendering.specs.Bounds.{within}
use Rattle.eval_rendering.specs.Rendering.{render}
use Rattle.eval_rendering.specs.declared.rendered.Rendered.{Rendered}
use Rattle.eval_rendering.specs.declared.rendered.Rendered.TheVariants as rendered
use Rattle.eval_assignments.specs.Bounds.{most_bytes_of}
use Rattle.eval_assignments.specs.Escapes.{escape_of, mode_of}
use Rattle.eval_assignments.specs.Finality.{final_target, is_settled}
use Rattle.eval_assignments.specs.Steps.{emptied, is_ignored, lacks_number, set_step}

-- whether an assignment whose text is too long counts: by the manual it is as if it was not written, but udev makes
-- its key final nevertheless
abbrev pub is_taken_too_long : Profile → Bool
is_taken_too_long Manual = false
is_taken_too_long Udev = true

-- whether a text is assigned: it is not too long, and the assignment is not ignored
abbrev pub is_text_made : Profile → Target → Rendered → Scene → Bool
is_text_made profile about (rendered.Text t) s = not (is_ignored profile about s)
is_text_made profile about rendered.TooLong s = is_taken_too_long profile

-- the same for a template that `:=` assigns; udev skips some keys if the device has no number
abbrev pub is_template_made : Profile → Rule → Target → Template → Scene → Bool
is_template_made Manual r about template s = is_text_made Manual about (render template s.state (mode_of Manual about (escape_of r.sets))) s
is_template_made Udev r about template s =
    not (lacks_number about s.state.event.device.number)
    && is_text_made Udev about (within (most_bytes_of about)
    (render template (emptied AssignFinal about s).state (mode_of Udev about (escape_of r.sets)))) (emptied AssignFinal about s)

-- whether an assignment by `:=` is made, if its key is not final: an option and a RUN always are
abbrev pub is_made : Rule → Change → Scene → Bool
is_made r (change.Option known) s = true
is_made r (change.Text about template) s = is_template_made s.state.event.profile r about template s
is_made r (change.Run braces template) s = true

-- a scene after an assignment of a text
abbrev pub after_text : Rule → AssignOperator → Target → Template → Scene → Scene
after_text r o about template s = set_step r s (record { operator = o; change = change.Text about template })

-- a scene after an assignment of an option
abbrev pub after_option : Rule → AssignOperator → RuleOption → Scene → Scene
after_option r o known s = set_step r s (record { operator = o; change = change.Option known })

-- By the manual a text is assigned: its key is not final, the device has a name if it is that, and the text is not too long.
pub record IsAssigned (r : Rule) (about : Target) (template : Template) (s : Scene) (t : Text) : Type 0 where
  pub manual : s.state.event.profile ≡ Manual
  pub free : is_settled (final_target about) s.finals ≡ false
  pub heard : is_ignored Manual about s ≡ false
  pub text : render template s.state (mode_of Manual about (escape_of r.sets)) ≡ rendered.Text t
