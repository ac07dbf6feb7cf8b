-- What an assignment leaves as it is: each key that may be final but its own, and which keys are final.
use Rattle.std.proofs.Common.{◌≡◌, ℕ, zero, suc, Bool, true, false, cond, nat_lt, List, [], ◌∷◌, length, Option, Some, None, refl}
use Rattle.text_bytes.specs.declared.profile.Profile.{Profile}
use Rattle.text_bytes.specs.declared.profile.Profile.TheVariants.{Manual, Udev}
use Rattle.text_bytes.specs.Text.{Text}
use Rattle.text_tables.specs.Pairs.{value_of}
use Rattle.rule_tokens.specs.Template.{Parts as Template}
use Rattle.rule_types.specs.Topics.{mode_of}
use Rattle.rule_types.specs.Written.{attribute_of_target, key_of_target}
use Rattle.rule_types.specs.declared.keys.Key.TheVariants as rule_key
use Rattle.rule_types.specs.declared.roles.AssignOperator.{AssignOperator}
use Rattle.rule_types.specs.declared.roles.AssignOperator.TheVariants.{Assign, Add, Remove, AssignFinal}
use Rattle.rule_types.specs.declared.roles.Target.{Target}
use Rattle.rule_types.specs.declared.roles.Target.TheVariants as target
use Rattle.rule_types.specs.declared.types.RunType.{RunType}
use Rattle.rule_types.specs.Rules.{Rule}
use Rattle.eval_rendering.specs.Bounds.{most_command_bytes, most_path_bytes, sysfs_path, within}
use Rattle.eval_rendering.specs.Rendering.{render, rendered_as_udev}
use Rattle.eval_rendering.specs.declared.rendered.Mode.TheVariants.{Plain}
use Rattle.eval_rendering.specs.declared.rendered.Rendered.{Rendered}
use Rattle.eval_rendering.specs.declared.rendered.Rendered.TheVariants as rendered
use Rattle.eval_state.specs.Named.{NamedValue, named, named_place}
use Rattle.eval_state.specs.Runs.{runs_after}
use Rattle.eval_state.specs.Scenes.{noted, noted_key}
use Rattle.eval_state.specs.declared.note_kind.NoteKind.TheVariants.{NameIgnored, NoDeviceNumber, TagIgnored, TextTooLong}
use Rattle.eval_state.specs.declared.finals.FinalKey.TheVariants as key
use Rattle.eval_state.specs.declared.scene.Scene.{Scene}
use Rattle.eval_assignments.specs.declared.escapes.Escape.{Escape}
use Rattle.eval_assignments.specs.Assigning.{assigned, group_set, link_text, owner_set}
use Rattle.eval_state.specs.Files.{starred}
use Rattle.eval_assignments.specs.Attributes.{attribute_put, attribute_set_at, attribute_set_by, found_above, own_attribute_set}
use Rattle.eval_assignments.specs.Escapes.{escape_of}
use Rattle.eval_assignments.specs.Finality.{final_target, finally}
use Rattle.eval_assignments.specs.Inner.{given_by}
use Rattle.eval_assignments.specs.Links.{first_refused, link_noted, links_changed, plain_links, words}
use Rattle.eval_assignments.specs.Lists.{changed}
use Rattle.eval_assignments.specs.Modes.{mode_read, mode_set}
use Rattle.eval_assignments.specs.Parameters.{parameter_put}
use Rattle.eval_assignments.specs.Properties.{env_text, extended, property_added, property_changed, property_extended, property_joined, property_put, udev_property_changed}
use Rattle.eval_assignments.specs.Runs.{command_made, made_before, run_made, run_of}
use Rattle.eval_assignments.specs.Steps.{emptied, finally_too_long, is_ignored, lacks_number, run_step, text_given, text_rendered, text_set, text_step}
use Rattle.eval_assignments.specs.Tags.{is_tag, tag_added, tag_changed, with_tag, without_tags}
use Rattle.eval_laws.proofs.KeptParts.{Kept, At, Other, Same, itself, through, both, same_notes, same_env, same_tags, same_tables, same_owner, same_group, same_mode, same_name, same_links, same_runs, same_finally, value}

-- ---- a text that is assigned

module _ (k : Kept) (r : Rule) where
  joined_same : (name : Text) (held : Option Text) (s : Scene) → Same k s (property_joined r name held s)
  joined_same name None s = (same_notes k s _, refl)
  joined_same name (Some held) s = (same_env k s _, refl)

  added_same : (name t : Text) (s : Scene) → Same k s (property_added r name t s)
  added_same name [] s = (itself k s, refl)
  added_same name (b ∷ t) s = joined_same name _ s

  put_same : (name : Text) (held : Option Text) (s : Scene) → Same k s (property_put r name held s)
  put_same name None s = (same_notes k s _, refl)
  put_same name (Some held) s = (same_env k s _, refl)

  extended_same : (name written t : Text) (s : Scene) → Same k s (property_extended r name written t s)
  extended_same name [] t s = (itself k s, refl)
  extended_same name (b ∷ written) t s = put_same name (extended (value_of s.state.env name) t) s

  property_same : (o : AssignOperator) (name t : Text) (s : Scene) → Same k s (property_changed r o name t s)
  property_same Add name t s = added_same name t s
  property_same Assign name t s = (same_env k s _, refl)
  property_same Remove name t s = (same_env k s _, refl)
  property_same AssignFinal name t s = (same_env k s _, refl)

  udev_property_same : (e : Escape) (o : AssignOperator) (name written t : Text) (s : Scene) → Same k s (udev_property_changed r e o name written t s)
  udev_property_same e Add name written t s = extended_same name written (env_text e t) s
  udev_property_same e Assign name written t s = (same_env k s _, refl)
  udev_property_same e Remove name written t s = (same_env k s _, refl)
  udev_property_same e AssignFinal name written t s = (same_env k s _, refl)

  owner_same : (t : Text) (s : Scene) → Other k (Some key.Owner) → Same k s (owner_set r t s)
  owner_same [] s other = (same_notes k s _, refl)
  owner_same (b ∷ t) s other = (same_owner k s _ other, refl)

  group_same : (t : Text) (s : Scene) → Other k (Some key.Group) → Same k s (group_set r t s)
  group_same [] s other = (same_notes k s _, refl)
  group_same (b ∷ t) s other = (same_group k s _ other, refl)

  read_same : (t : Text) (mode : Option ℕ) (s : Scene) → Other k (Some key.Mode) → Same k s (mode_read r t mode s)
  read_same t None s other = (same_notes k s _, refl)
  read_same t (Some mode) s other = (same_mode k s _ other, refl)

  mode_same : (t : Text) (s : Scene) → Other k (Some key.Mode) → Same k s (mode_set r t s)
  mode_same [] s other = (same_notes k s _, refl)
  mode_same (b ∷ t) s other = read_same (b ∷ t) (mode_of (b ∷ t)) s other

  tag_same : (t : Text) (s : Scene) → Same k s (tag_added r t s)
  tag_same [] s = (same_notes k s _, refl)
  tag_same (b ∷ t) s = by (is_tag (b ∷ t))
    where
      by : (is : Bool) → Same k s (cond is (with_tag (b ∷ t) s) (noted r TagIgnored (b ∷ t) s))
      by true = (same_tags k s _ _, refl)
      by false = (same_notes k s _, refl)

  tags_same : (o : AssignOperator) (t : Text) (s : Scene) → Same k s (tag_changed r o t s)
  tags_same Remove t s = (same_tags k s _ _, refl)
  tags_same Add t s = tag_same t s
  tags_same Assign t s = both k s (without_tags s) (tag_added r t (without_tags s)) (same_tags k s _ _, refl) (tag_same t (without_tags s))
  tags_same AssignFinal t s = both k s (without_tags s) (tag_added r t (without_tags s)) (same_tags k s _ _, refl) (tag_same t (without_tags s))

  refused_same : (path : Option Text) (s : Scene) → Same k s (link_noted r path s)
  refused_same None s = (itself k s, refl)
  refused_same (Some path) s = (same_notes k s _, refl)

  links_same : (o : AssignOperator) (t : Text) (s : Scene) → Other k (Some key.Symlink) → Same k s (links_changed r o t s)
  links_same o t s other =
      let linked : Scene = record s { state = record s.state { links = changed o (plain_links (words t)) s.state.links } } in
      both k s linked (link_noted r (first_refused (words t)) linked) (same_links k s _ other, refl) (refused_same (first_refused (words t)) linked)

  found_same : (name : Text) (found : Option Text) (t : Text) (s : Scene) → Same k s (attribute_put r name found t s)
  found_same name None t s = (same_notes k s _, refl)
  found_same name (Some found) t s = (same_tables k s _ _ _, refl)

  own_same : (name t : Text) (s : Scene) → Same k s (own_attribute_set r name t s)
  own_same name t s = by (nat_lt most_path_bytes (length (sysfs_path s.state.event.device name)))
    where
      by : (b : Bool) → Same k s (cond b (noted_key r TextTooLong rule_key.Attr (Some name) s) (attribute_put r name (starred s.state.event.device name) t s))
      by true = (same_notes k s _, refl)
      by false = found_same name (starred s.state.event.device name) t s

  at_same : (place : Option ℕ) (is : NamedValue) (name t : Text) (s : Scene) → Same k s (attribute_set_at place is r name t s)
  at_same None is name t s = own_same name t s
  at_same (Some zero) is name t s = found_same name (starred s.state.event.device is.attribute) t s
  at_same (Some (suc above)) is name t s = found_same name (found_above s.state.event (suc above) is name) t s

  attribute_same : (is : Option NamedValue) (name t : Text) (s : Scene) → Same k s (attribute_set_by is r name t s)
  attribute_same None name t s = own_same name t s
  attribute_same (Some is) name t s = at_same (named_place is s.state.event) is name t s

  parameter_same : (name : Text) (text : Rendered) (t : Text) (s : Scene) → Same k s (parameter_put r name text t s)
  parameter_same name rendered.TooLong t s = (same_notes k s _, refl)
  parameter_same name (rendered.Text text) t s = (same_tables k s _ _ _, refl)

  pub assigned_same : (profile : Profile) (e : Escape) (o : AssignOperator) (about : Target) (written t : Text) (s : Scene) → Other k (final_target about) → Same k s (assigned profile about (given_by r e o about written) t s)
  assigned_same Manual e o target.Owner written t s other = (same_owner k s _ other, refl)
  assigned_same Manual e o target.Group written t s other = (same_group k s _ other, refl)
  assigned_same Manual e o target.Mode written t s other = (same_mode k s _ other, refl)
  assigned_same Manual e o target.Tag written t s other = (same_tags k s _ _, refl)
  assigned_same Manual e o (target.Seclabel label) written t s other = (same_tables k s _ _ _, refl)
  assigned_same Manual e o (target.Env name) written t s other = property_same o name t s
  assigned_same Manual e o target.Name written t s other = (same_name k s _ other, refl)
  assigned_same Manual e o target.Symlink written t s other = (same_links k s _ other, refl)
  assigned_same Manual e o (target.Attr name) written t s other = (same_tables k s _ _ _, refl)
  assigned_same Manual e o (target.Sysctl name) written t s other = (same_tables k s _ _ _, refl)
  assigned_same Udev e o target.Owner written t s other = owner_same t s other
  assigned_same Udev e o target.Group written t s other = group_same t s other
  assigned_same Udev e o target.Mode written t s other = mode_same t s other
  assigned_same Udev e o target.Tag written t s other = tags_same o t s
  assigned_same Udev e o (target.Seclabel label) written t s other = (same_tables k s _ _ _, refl)
  assigned_same Udev e o (target.Env name) written t s other = udev_property_same e o name written t s
  assigned_same Udev e o target.Name written t s other = (same_name k s _ other, refl)
  assigned_same Udev e o target.Symlink written t s other = links_same o (link_text e t) s other
  assigned_same Udev e o (target.Attr name) written t s other = attribute_same (named name) name t s
  assigned_same Udev e o (target.Sysctl name) written t s other = parameter_same name (within most_path_bytes (rendered_as_udev name s.state)) t s

  given_same : (profile : Profile) (e : Escape) (o : AssignOperator) (about : Target) (written t : Text) (s : Scene) → Other k (final_target about) → At k s (text_given profile (given_by r e o about written) t s)
  given_same profile e o about written t s other = by (is_ignored profile about s)
    where
      by : (b : Bool) → At k s (cond b (noted r NameIgnored t s) (finally o (final_target about) (assigned profile about (given_by r e o about written) t s)))
      by true = same_notes k s _
      by false = same_finally k s (assigned profile about (given_by r e o about written) t s) o (final_target about) (assigned_same profile e o about written t s other).0

  late_same : (profile : Profile) (o : AssignOperator) (about : Target) (s t : Scene) → At k s t → At k s (finally_too_long profile o about t)
  late_same Manual o about s t h = h
  late_same Udev o about s t h = same_finally k s t o (final_target about) h

  text_same : (profile : Profile) (e : Escape) (o : AssignOperator) (about : Target) (written : Text) (text : Rendered) (s : Scene) → Other k (final_target about)
      → At k s (text_set profile (given_by r e o about written) text s)
  text_same profile e o about written (rendered.Text t) s other = given_same profile e o about written t s other
  text_same profile e o about written rendered.TooLong s other = late_same profile o about s _ (same_notes k s _)

  rendered_same : (profile : Profile) (o : AssignOperator) (about : Target) (template : Template) (s : Scene) → Other k (final_target about) → At k s (text_rendered profile (given_by r (escape_of r.sets) o about template.written) template s)
  rendered_same Manual o about template s other = text_same Manual (escape_of r.sets) o about template.written _ s other
  rendered_same Udev o about template s other = text_same Udev (escape_of r.sets) o about template.written _ s other

  emptied_same : (o : AssignOperator) (about : Target) (s : Scene) → Other k (final_target about) → At k s (emptied o about s)
  emptied_same Assign target.Symlink s other = same_links k s [] other
  emptied_same AssignFinal target.Symlink s other = same_links k s [] other
  emptied_same o about s other = itself k s

  pub step_same : (profile : Profile) (o : AssignOperator) (about : Target) (template : Template) (s : Scene) → Other k (final_target about) → At k s (text_step profile (given_by r (escape_of r.sets) o about template.written) template s)
  step_same Manual o about template s other = rendered_same Manual o about template s other
  step_same Udev o about template s other = by (lacks_number about s.state.event.device.number)
    where
      by : (b : Bool) → At k s (cond b (noted_key r NoDeviceNumber (key_of_target about) (attribute_of_target about) s) (text_rendered Udev (given_by r (escape_of r.sets) o about template.written) template (emptied o about s)))
      by true = same_notes k s _
      by false = through k s (emptied o about s) _ (emptied_same o about s other) (rendered_same Udev o about template (emptied o about s) other)

  -- ---- a RUN

  command_same : (braces : Option RunType) (template : Template) (text : Text) (ws : List Text) (s : Scene) → Other k (Some key.Run) → At k s (command_made r braces template text ws s)
  command_same braces template text [] s other = same_notes k s _
  command_same braces template text (word ∷ ws) s other = same_runs k s _ _ other

  made_same : (braces : Option RunType) (template : Template) (text : Rendered) (s : Scene) → Other k (Some key.Run) → At k s (run_made r braces template text s)
  made_same braces template rendered.TooLong s other = same_notes k s _
  made_same braces template (rendered.Text text) s other = command_same braces template text (words text) s other

  pub run_same : (profile : Profile) (o : AssignOperator) (braces : Option RunType) (template : Template) (s : Scene) → Other k (Some key.Run) → At k s (run_step profile r o braces template s)
  run_same Manual o braces template s other = same_finally k s (record s { runs = runs_after o s.runs (run_of r braces template s) }) o (Some key.Run) (same_runs k s (runs_after o s.runs (run_of r braces template s)) s.made other)
  run_same Udev o braces template s other =
      let fewer : Scene = record s { made = made_before o s.made } in
      let made : Scene = run_made r braces template (within most_command_bytes (render template s.state Plain)) fewer in
      same_finally k s made o (Some key.Run) (through k s fewer made (same_runs k s s.runs (made_before o s.made) other) (made_same braces template (within most_command_bytes (render template s.state Plain)) fewer other))

-- what is final after a text that is assigned, before `:=` makes its key final
watched : (about : Target) → Other (value key.Watch) (final_target about)
watched target.Owner h = cc
watched target.Group h = cc
watched target.Mode h = cc
watched target.Name h = cc
watched target.Symlink h = cc
watched target.Tag h = cc
watched (target.Seclabel label) h = cc
watched (target.Env name) h = cc
watched (target.Attr name) h = cc
watched (target.Sysctl name) h = cc

pub assigned_finals : (profile : Profile) (r : Rule) (e : Escape) (o : AssignOperator) (about : Target) (written t : Text) (s : Scene) → (assigned profile about (given_by r e o about written) t s).finals ≡ s.finals
assigned_finals profile r e o about written t s = (assigned_same (value key.Watch) r profile e o about written t s (watched about)).1

pub emptied_finals : (o : AssignOperator) (about : Target) (s : Scene) → (emptied o about s).finals ≡ s.finals
emptied_finals Assign target.Symlink s = refl
emptied_finals AssignFinal target.Symlink s = refl
emptied_finals o about s = refl

command_finals : (r : Rule) (braces : Option RunType) (template : Template) (text : Text) (ws : List Text) (s : Scene) → (command_made r braces template text ws s).finals ≡ s.finals
command_finals r braces template text [] s = refl
command_finals r braces template text (word ∷ ws) s = refl

pub made_finals : (r : Rule) (braces : Option RunType) (template : Template) (text : Rendered) (s : Scene) → (run_made r braces template text s).finals ≡ s.finals
made_finals r braces template rendered.TooLong s = refl
made_finals r braces template (rendered.Text text) s = command_finals r braces template text (words text) s
