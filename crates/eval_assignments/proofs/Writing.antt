-- What an assignment to an attribute or a kernel parameter writes.
use Rattle.std.proofs.Common.{◌≡◌, inl, inr, ℕ, zero, suc, Bool, true, false, cond, ◌&&◌, length, nat_lt, Option, Some, None, unwrap_or, refl, ap, sym, subst}
use Rattle.text_bytes.specs.declared.profile.Profile.{Profile}
use Rattle.text_bytes.specs.declared.profile.Profile.TheVariants.{Manual, Udev}
use Rattle.text_bytes.specs.Text.{Text}
use Rattle.text_tables.specs.Pairs.{with_value}
use Rattle.rule_tokens.specs.Template.{Parts as Template}
use Rattle.rule_types.specs.declared.keys.Key.TheVariants as key
use Rattle.rule_types.specs.declared.roles.AssignOperator.{AssignOperator}
use Rattle.rule_types.specs.declared.roles.AssignOperator.TheVariants.{Assign, Add, Remove, AssignFinal}
use Rattle.rule_types.specs.declared.roles.Target.TheVariants as target
use Rattle.rule_types.specs.declared.part.Assignment.{Assignment}
use Rattle.rule_types.specs.declared.part.Change.{Change}
use Rattle.rule_types.specs.declared.part.Change.TheVariants as change
use Rattle.rule_types.specs.Rules.{Rule}
use Rattle.device_core.specs.Values.{NumberValue}
use Rattle.eval_rendering.specs.Bounds.{most_path_bytes, sysfs_path, within}
use Rattle.eval_rendering.specs.Rendering.{rendered_as_udev}
use Rattle.eval_rendering.specs.declared.rendered.Rendered.{Rendered}
use Rattle.eval_rendering.specs.declared.rendered.Rendered.TheVariants as rendered
use Rattle.eval_state.specs.Named.{NamedValue, named, named_place}
use Rattle.eval_state.specs.Scenes.{noted_key}
use Rattle.eval_state.specs.declared.note_kind.NoteKind.TheVariants.{NoDeviceNumber, TextTooLong}
use Rattle.eval_state.specs.declared.scene.Scene.{Scene}
use Rattle.eval_assignments.specs.Attributes.{attribute_put, attribute_set, attribute_set_at, attribute_set_by}
use Rattle.eval_assignments.specs.Escapes.{escape_of}
use Rattle.eval_assignments.specs.Finality.{final_key, finally, is_settled}
use Rattle.eval_assignments.specs.Inner.{given_by}
use Rattle.eval_assignments.specs.Parameters.{parameter_name, parameter_put, parameter_set}
use Rattle.eval_assignments.specs.Steps.{emptied, lacks_number, set_step, step_by, text_given, text_rendered, text_set}
use Rattle.eval_assignments.specs.Written.{Writes, found_at, found_attribute, found_by, found_parameter, is_nowhere, is_own, is_own_by, parameter_in, written_name}
use Rattle.eval_assignments.specs.declared.escapes.Escape.{Escape}

-- a value is assigned to the attribute to which a name leads, unless it is the event device's own and its path is too long
abbrev pub set_by_name : Rule → Text → Text → Scene → Scene
set_by_name r name t s =
    cond (is_own name s.state.event && nat_lt most_path_bytes (length (sysfs_path s.state.event.device name))) (noted_key r TextTooLong key.Attr (Some name) s)
    (attribute_put r name (found_attribute name s.state.event) t s)

pub attribute_is_set : (r : Rule) (name t : Text) (s : Scene) → set_by_name r name t s ≡ attribute_set r name t s
attribute_is_set r name t s = by (named name)
  where
    long : Bool
    long = nat_lt most_path_bytes (length (sysfs_path s.state.event.device name))

    at_place : (place : Option ℕ) (n : NamedValue)
        → cond (is_nowhere place && long) (noted_key r TextTooLong key.Attr (Some name) s) (attribute_put r name (found_at place n name s.state.event) t s) ≡ attribute_set_at place n r name t s
    at_place None n = refl
    at_place (Some zero) n = refl
    at_place (Some (suc above)) n = refl

    by : (n : Option NamedValue)
        → cond (is_own_by n s.state.event && long) (noted_key r TextTooLong key.Attr (Some name) s) (attribute_put r name (found_by n name s.state.event) t s) ≡ attribute_set_by n r name t s
    by None = refl
    by (Some n) = at_place (named_place n s.state.event) n

-- a parameter whose name can be rendered
pub parameter_is_set : (r : Rule) (written t : Text) (s : Scene) (path : Text) → found_parameter written s.state ≡ Some path
    → record s { sysctls = with_value s.sysctls path t } ≡ parameter_set r written t s
parameter_is_set r written t s path e = by (within most_path_bytes (rendered_as_udev written s.state)) e
  where
    by : (x : Rendered) → parameter_in x ≡ Some path → record s { sysctls = with_value s.sysctls path t } ≡ parameter_put r written x t s
    by (rendered.Text name) h = ap (λ (p : Text). record s { sysctls = with_value s.sysctls p t }) (sym (ap (λ (o : Option Text). unwrap_or o path) h))
    by rendered.TooLong h = cc

pub parameter_is_long : (r : Rule) (written t : Text) (s : Scene) → found_parameter written s.state ≡ None → noted_key r TextTooLong key.Sysctl (Some written) s ≡ parameter_set r written t s
parameter_is_long r written t s e = by (within most_path_bytes (rendered_as_udev written s.state)) e
  where
    by : (x : Rendered) → parameter_in x ≡ None → noted_key r TextTooLong key.Sysctl (Some written) s ≡ parameter_put r written x t s
    by (rendered.Text name) h = cc
    by rendered.TooLong h = refl

-- ---- what is written

put_writes : (r : Rule) (name : Text) (found : Option Text) (t : Text) (s : Scene) → Writes found s.attrs (attribute_put r name found t s).attrs
put_writes r name None t s = inl refl
put_writes r name (Some found) t s = inr (found, t, refl, refl)

attribute_writes : (r : Rule) (name t : Text) (s : Scene) → Writes (found_attribute name s.state.event) s.attrs (attribute_set r name t s).attrs
attribute_writes r name t s =
    subst (λ (u : Scene). Writes (found_attribute name s.state.event) s.attrs u.attrs) (attribute_is_set r name t s)
    (by (is_own name s.state.event && nat_lt most_path_bytes (length (sysfs_path s.state.event.device name))))
  where
    by : (b : Bool) → Writes (found_attribute name s.state.event) s.attrs (cond b (noted_key r TextTooLong key.Attr (Some name) s) (attribute_put r name (found_attribute name s.state.event) t s)).attrs
    by true = inl refl
    by false = put_writes r name (found_attribute name s.state.event) t s

parameter_writes : (r : Rule) (written t : Text) (s : Scene) → Writes (found_parameter written s.state) s.sysctls (parameter_set r written t s).sysctls
parameter_writes r written t s = by (within most_path_bytes (rendered_as_udev written s.state))
  where
    by : (x : Rendered) → Writes (parameter_in x) s.sysctls (parameter_put r written x t s).sysctls
    by (rendered.Text name) = inr (parameter_name name, t, refl, refl)
    by rendered.TooLong = inl refl

-- ---- the step of an assignment

finally_none : (o : AssignOperator) (s : Scene) → s ≡ finally o None s
finally_none Assign s = refl
finally_none Add s = refl
finally_none Remove s = refl
finally_none AssignFinal s = refl

module _ (r : Rule) (e : Escape) (o : AssignOperator) (name written : Text) where
  attribute_given : (profile : Profile) (t : Text) (s : Scene)
      → Writes (written_name profile (target.Attr name) s.state) s.attrs (text_given profile (given_by r e o (target.Attr name) written) t s).attrs
  attribute_given Manual t s =
      subst (λ (u : Scene). Writes (Some name) s.attrs u.attrs) (finally_none o (record s { attrs = with_value s.attrs name t })) (inr (name, t, refl, refl))
  attribute_given Udev t s =
      subst (λ (u : Scene). Writes (found_attribute name s.state.event) s.attrs u.attrs) (finally_none o (attribute_set r name t s)) (attribute_writes r name t s)

  parameter_given : (profile : Profile) (t : Text) (s : Scene)
      → Writes (written_name profile (target.Sysctl name) s.state) s.sysctls (text_given profile (given_by r e o (target.Sysctl name) written) t s).sysctls
  parameter_given Manual t s =
      subst (λ (u : Scene). Writes (Some name) s.sysctls u.sysctls) (finally_none o (record s { sysctls = with_value s.sysctls name t })) (inr (name, t, refl, refl))
  parameter_given Udev t s =
      subst (λ (u : Scene). Writes (found_parameter name s.state) s.sysctls u.sysctls) (finally_none o (parameter_set r name t s)) (parameter_writes r name t s)

  attribute_text : (profile : Profile) (text : Rendered) (s : Scene)
      → Writes (written_name profile (target.Attr name) s.state) s.attrs (text_set profile (given_by r e o (target.Attr name) written) text s).attrs
  attribute_text profile (rendered.Text t) s = attribute_given profile t s
  attribute_text Manual rendered.TooLong s = inl refl
  attribute_text Udev rendered.TooLong s =
      subst (λ (u : Scene). Writes (found_attribute name s.state.event) s.attrs u.attrs) (finally_none o (noted_key r TextTooLong key.Attr (Some name) s)) (inl refl)

  parameter_text : (profile : Profile) (text : Rendered) (s : Scene)
      → Writes (written_name profile (target.Sysctl name) s.state) s.sysctls (text_set profile (given_by r e o (target.Sysctl name) written) text s).sysctls
  parameter_text profile (rendered.Text t) s = parameter_given profile t s
  parameter_text Manual rendered.TooLong s = inl refl
  parameter_text Udev rendered.TooLong s =
      subst (λ (u : Scene). Writes (found_parameter name s.state) s.sysctls u.sysctls) (finally_none o (noted_key r TextTooLong key.Sysctl (Some name) s)) (inl refl)

emptied_attribute : (o : AssignOperator) (name : Text) (s : Scene) → s ≡ emptied o (target.Attr name) s
emptied_attribute Assign name s = refl
emptied_attribute Add name s = refl
emptied_attribute Remove name s = refl
emptied_attribute AssignFinal name s = refl

emptied_parameter : (o : AssignOperator) (name : Text) (s : Scene) → s ≡ emptied o (target.Sysctl name) s
emptied_parameter Assign name s = refl
emptied_parameter Add name s = refl
emptied_parameter Remove name s = refl
emptied_parameter AssignFinal name s = refl

module _ (r : Rule) (o : AssignOperator) (name : Text) (template : Template) where
  attribute_step : (profile : Profile) (s : Scene)
      → Writes (written_name profile (target.Attr name) s.state) s.attrs (step_by profile r o (change.Text (target.Attr name) template) s).attrs
  attribute_step Manual s = attribute_text r (escape_of r.sets) o name template.written Manual _ s
  attribute_step Udev s = by s.state.event.device.number
    where
      by : (number : Option NumberValue)
          → Writes (found_attribute name s.state.event) s.attrs
          (cond (lacks_number (target.Attr name) number) (noted_key r NoDeviceNumber key.Attr (Some name) s)
          (text_rendered Udev (given_by r (escape_of r.sets) o (target.Attr name) template.written) template (emptied o (target.Attr name) s))).attrs
      by None =
          subst (λ (u : Scene). Writes (found_attribute name s.state.event) s.attrs (text_rendered Udev (given_by r (escape_of r.sets) o (target.Attr name) template.written) template u).attrs) (emptied_attribute o name s)
          (attribute_text r (escape_of r.sets) o name template.written Udev _ s)
      by (Some number) =
          subst (λ (u : Scene). Writes (found_attribute name s.state.event) s.attrs (text_rendered Udev (given_by r (escape_of r.sets) o (target.Attr name) template.written) template u).attrs) (emptied_attribute o name s)
          (attribute_text r (escape_of r.sets) o name template.written Udev _ s)

  parameter_step : (profile : Profile) (s : Scene)
      → Writes (written_name profile (target.Sysctl name) s.state) s.sysctls (step_by profile r o (change.Text (target.Sysctl name) template) s).sysctls
  parameter_step Manual s = parameter_text r (escape_of r.sets) o name template.written Manual _ s
  parameter_step Udev s = by s.state.event.device.number
    where
      by : (number : Option NumberValue)
          → Writes (found_parameter name s.state) s.sysctls
          (cond (lacks_number (target.Sysctl name) number) (noted_key r NoDeviceNumber key.Sysctl (Some name) s)
          (text_rendered Udev (given_by r (escape_of r.sets) o (target.Sysctl name) template.written) template (emptied o (target.Sysctl name) s))).sysctls
      by None =
          subst (λ (u : Scene). Writes (found_parameter name s.state) s.sysctls (text_rendered Udev (given_by r (escape_of r.sets) o (target.Sysctl name) template.written) template u).sysctls) (emptied_parameter o name s)
          (parameter_text r (escape_of r.sets) o name template.written Udev _ s)
      by (Some number) =
          subst (λ (u : Scene). Writes (found_parameter name s.state) s.sysctls (text_rendered Udev (given_by r (escape_of r.sets) o (target.Sysctl name) template.written) template u).sysctls) (emptied_parameter o name s)
          (parameter_text r (escape_of r.sets) o name template.written Udev _ s)

-- an assignment to an attribute leaves attributes as they were, but for the one to which the name leads
pub attributes_written : (r : Rule) (s : Scene) (a : Assignment) (name : Text) (template : Template) → a.change ≡ change.Text (target.Attr name) template
    → Writes (written_name s.state.event.profile (target.Attr name) s.state) s.attrs (set_step r s a).attrs
unfolding set_step
attributes_written r s a name template e =
    subst (λ (c : Change). Writes (written_name s.state.event.profile (target.Attr name) s.state) s.attrs (cond (is_settled (final_key s.state.event.profile c) s.finals) s (step_by s.state.event.profile r a.operator c s)).attrs) (sym e)
    (attribute_step r a.operator name template s.state.event.profile s)

-- and one to a parameter the parameters
pub parameters_written : (r : Rule) (s : Scene) (a : Assignment) (name : Text) (template : Template) → a.change ≡ change.Text (target.Sysctl name) template
    → Writes (written_name s.state.event.profile (target.Sysctl name) s.state) s.sysctls (set_step r s a).sysctls
unfolding set_step
parameters_written r s a name template e =
    subst (λ (c : Change). Writes (written_name s.state.event.profile (target.Sysctl name) s.state) s.sysctls (cond (is_settled (final_key s.state.event.profile c) s.finals) s (step_by s.state.event.profile r a.operator c s)).sysctls) (sym e)
    (parameter_step r a.operator name template s.state.event.profile s)
