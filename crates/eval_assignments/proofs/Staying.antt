-- What an event says of itself stays, whatever is assigned.
use Rattle.std.proofs.Common.{◌≡◌, ℕ, zero, suc, Bool, true, false, cond, List, [], ◌∷◌, length, nat_lt, Option, Some, None, refl, ◌∙◌}
use Rattle.text_bytes.specs.declared.profile.Profile.{Profile}
use Rattle.text_bytes.specs.declared.profile.Profile.TheVariants.{Manual, Udev}
use Rattle.text_bytes.specs.Text.{Text}
use Rattle.rule_tokens.specs.Template.{Parts as Template}
use Rattle.rule_types.specs.Topics.{mode_of as mode_in}
use Rattle.rule_types.specs.Written.{attribute_of_target, key_of_target}
use Rattle.rule_types.specs.declared.keys.Key.TheVariants as key
use Rattle.rule_types.specs.declared.roles.AssignOperator.{AssignOperator}
use Rattle.rule_types.specs.declared.roles.AssignOperator.TheVariants.{Assign, Add, Remove, AssignFinal}
use Rattle.rule_types.specs.declared.roles.Target.{Target}
use Rattle.rule_types.specs.declared.roles.Target.TheVariants as target
use Rattle.rule_types.specs.declared.rule_option.RuleOption.{RuleOption}
use Rattle.rule_types.specs.declared.rule_option.RuleOption.TheVariants as option
use Rattle.rule_types.specs.declared.types.RunType.{RunType}
use Rattle.rule_types.specs.declared.part.Assignment.{Assignment}
use Rattle.rule_types.specs.declared.part.Change.{Change}
use Rattle.rule_types.specs.declared.part.Change.TheVariants as change
use Rattle.rule_types.specs.Rules.{Rule}
use Rattle.eval_rendering.specs.Bounds.{most_command_bytes, most_path_bytes, sysfs_path, within}
use Rattle.eval_rendering.specs.Rendering.{render}
use Rattle.eval_rendering.specs.declared.rendered.Mode.TheVariants.{Plain}
use Rattle.eval_rendering.specs.declared.rendered.Rendered.{Rendered}
use Rattle.eval_rendering.specs.declared.rendered.Rendered.TheVariants as rendered
use Rattle.eval_state.specs.Files.{starred}
use Rattle.eval_state.specs.Named.{NamedValue, named, named_place}
use Rattle.eval_state.specs.Notes.{word_of_key}
use Rattle.eval_state.specs.Scenes.{noted, noted_key}
use Rattle.eval_state.specs.Runs.{runs_after}
use Rattle.eval_state.specs.declared.finals.FinalKey.{FinalKey}
use Rattle.eval_state.specs.declared.finals.FinalKey.TheVariants as final
use Rattle.eval_state.specs.declared.note_kind.NoteKind.TheVariants.{NameIgnored, NoDeviceNumber, TagIgnored, TextTooLong}
use Rattle.eval_state.specs.declared.scene.Scene.{Scene}
use Rattle.eval_assignments.specs.Assigning.{assigned, group_set, link_text, owner_set, with_option}
use Rattle.eval_assignments.specs.Attributes.{attribute_put, attribute_set, attribute_set_at, attribute_set_by, found_above, own_attribute_set}
use Rattle.eval_assignments.specs.Escapes.{escape_of}
use Rattle.eval_assignments.specs.Finality.{final_key, final_target, finally, is_settled}
use Rattle.eval_assignments.specs.Inner.{given_by}
use Rattle.eval_assignments.specs.Links.{first_refused, link_noted, links_changed, words}
use Rattle.eval_assignments.specs.Modes.{mode_read, mode_set}
use Rattle.eval_assignments.specs.Parameters.{parameter_put}
use Rattle.eval_assignments.specs.Properties.{property_added, property_changed, property_extended, property_joined, property_put, udev_property_changed}
use Rattle.eval_assignments.specs.Runs.{command_made, made_before, run_made, run_of}
use Rattle.eval_assignments.specs.Steps.{emptied, finally_too_long, is_ignored, lacks_number, run_step, set_step, step_by, text_given, text_rendered, text_set, text_step}
use Rattle.eval_assignments.specs.Tags.{is_tag, tag_added, tag_changed, with_tag, without_tags}

-- two scenes are of one event
abbrev pub Stays : Scene → Scene → Type 0
Stays s t = t.state.event ≡ s.state.event

finally_stays : (o : AssignOperator) (k : Option FinalKey) (s t : Scene) → Stays s t → Stays s (finally o k t)
finally_stays AssignFinal (Some k) s t h = h
finally_stays AssignFinal None s t h = h
finally_stays o k s t h = h

-- ---- properties

joined_stays : (r : Rule) (name : Text) (value : Option Text) (s : Scene) → Stays s (property_joined r name value s)
joined_stays r name None s = refl
joined_stays r name (Some value) s = refl

added_stays : (r : Rule) (name t : Text) (s : Scene) → Stays s (property_added r name t s)
added_stays r name [] s = refl
added_stays r name (b ∷ t) s = joined_stays r name _ s

changed_stays : (r : Rule) (o : AssignOperator) (name t : Text) (s : Scene) → Stays s (property_changed r o name t s)
changed_stays r Add name t s = added_stays r name t s
changed_stays r o name t s = refl

put_stays : (r : Rule) (name : Text) (value : Option Text) (s : Scene) → Stays s (property_put r name value s)
put_stays r name None s = refl
put_stays r name (Some value) s = refl

extended_stays : (r : Rule) (name written t : Text) (s : Scene) → Stays s (property_extended r name written t s)
extended_stays r name [] t s = refl
extended_stays r name (b ∷ written) t s = put_stays r name _ s

udev_changed_stays : (r : Rule) (e : _) (o : AssignOperator) (name written t : Text) (s : Scene) → Stays s (udev_property_changed r e o name written t s)
udev_changed_stays r e Add name written t s = extended_stays r name written _ s
udev_changed_stays r e o name written t s = refl

-- ---- owner, group and mode

owner_stays : (r : Rule) (t : Text) (s : Scene) → Stays s (owner_set r t s)
owner_stays r [] s = refl
owner_stays r (b ∷ t) s = refl

group_stays : (r : Rule) (t : Text) (s : Scene) → Stays s (group_set r t s)
group_stays r [] s = refl
group_stays r (b ∷ t) s = refl

read_stays : (r : Rule) (t : Text) (mode : Option ℕ) (s : Scene) → Stays s (mode_read r t mode s)
read_stays r t None s = refl
read_stays r t (Some mode) s = refl

mode_stays : (r : Rule) (t : Text) (s : Scene) → Stays s (mode_set r t s)
mode_stays r [] s = refl
mode_stays r (b ∷ t) s = read_stays r (b ∷ t) (mode_in (b ∷ t)) s

-- ---- tags and links

tag_added_stays : (r : Rule) (t : Text) (s : Scene) → Stays s (tag_added r t s)
tag_added_stays r [] s = refl
tag_added_stays r (b ∷ t) s = by (is_tag (b ∷ t))
  where
    by : (v : Bool) → Stays s (cond v (with_tag (b ∷ t) s) (noted r TagIgnored (b ∷ t) s))
    by true = refl
    by false = refl

tag_stays : (r : Rule) (o : AssignOperator) (t : Text) (s : Scene) → Stays s (tag_changed r o t s)
tag_stays r Remove t s = refl
tag_stays r Add t s = tag_added_stays r t s
tag_stays r o t s = tag_added_stays r t (without_tags s)

noted_stays : (r : Rule) (path : Option Text) (s : Scene) → Stays s (link_noted r path s)
noted_stays r None s = refl
noted_stays r (Some path) s = refl

links_stay : (r : Rule) (o : AssignOperator) (t : Text) (s : Scene) → Stays s (links_changed r o t s)
links_stay r o t s = noted_stays r (first_refused (words t)) _

-- ---- attributes and parameters

attribute_put_stays : (r : Rule) (name : Text) (found : Option Text) (t : Text) (s : Scene) → Stays s (attribute_put r name found t s)
attribute_put_stays r name None t s = refl
attribute_put_stays r name (Some found) t s = refl

own_stays : (r : Rule) (name t : Text) (s : Scene) → Stays s (own_attribute_set r name t s)
own_stays r name t s = by (nat_lt most_path_bytes (length (sysfs_path s.state.event.device name)))
  where
    by : (v : Bool) → Stays s (cond v (noted_key r TextTooLong key.Attr (Some name) s) (attribute_put r name (starred s.state.event.device name) t s))
    by true = refl
    by false = attribute_put_stays r name (starred s.state.event.device name) t s

at_stays : (place : Option ℕ) (n : NamedValue) (r : Rule) (name t : Text) (s : Scene) → Stays s (attribute_set_at place n r name t s)
at_stays None n r name t s = own_stays r name t s
at_stays (Some zero) n r name t s = attribute_put_stays r name (starred s.state.event.device n.attribute) t s
at_stays (Some (suc above)) n r name t s = attribute_put_stays r name (found_above s.state.event (suc above) n name) t s

attribute_stays : (r : Rule) (name t : Text) (s : Scene) → Stays s (attribute_set r name t s)
attribute_stays r name t s = by (named name)
  where
    by : (n : Option NamedValue) → Stays s (attribute_set_by n r name t s)
    by None = own_stays r name t s
    by (Some n) = at_stays (named_place n s.state.event) n r name t s

parameter_stays : (r : Rule) (written : Text) (name : Rendered) (t : Text) (s : Scene) → Stays s (parameter_put r written name t s)
parameter_stays r written rendered.TooLong t s = refl
parameter_stays r written (rendered.Text name) t s = refl

-- ---- each key

assigned_stays : (profile : Profile) (r : Rule) (e : _) (o : AssignOperator) (about : Target) (written t : Text) (s : Scene) → Stays s (assigned profile about (given_by r e o about written) t s)
assigned_stays Manual r e o (target.Env name) written t s = changed_stays r o name t s
assigned_stays Manual r e o about written t s = refl
assigned_stays Udev r e o target.Owner written t s = owner_stays r t s
assigned_stays Udev r e o target.Group written t s = group_stays r t s
assigned_stays Udev r e o target.Mode written t s = mode_stays r t s
assigned_stays Udev r e o target.Tag written t s = tag_stays r o t s
assigned_stays Udev r e o (target.Seclabel name) written t s = refl
assigned_stays Udev r e o (target.Env name) written t s = udev_changed_stays r e o name written t s
assigned_stays Udev r e o target.Name written t s = refl
assigned_stays Udev r e o target.Symlink written t s = links_stay r o (link_text e t) s
assigned_stays Udev r e o (target.Attr name) written t s = attribute_stays r name t s
assigned_stays Udev r e o (target.Sysctl name) written t s = parameter_stays r name _ t s

given_stays : (profile : Profile) (r : Rule) (e : _) (o : AssignOperator) (about : Target) (written t : Text) (s : Scene) → Stays s (text_given profile (given_by r e o about written) t s)
given_stays profile r e o about written t s = by (is_ignored profile about s)
  where
    by : (b : Bool) → Stays s (cond b (noted r NameIgnored t s) (finally o (final_target about) (assigned profile about (given_by r e o about written) t s)))
    by true = refl
    by false = finally_stays o (final_target about) s (assigned profile about (given_by r e o about written) t s) (assigned_stays profile r e o about written t s)

too_long_stays : (profile : Profile) (o : AssignOperator) (about : Target) (s t : Scene) → Stays s t → Stays s (finally_too_long profile o about t)
too_long_stays Manual o about s t h = h
too_long_stays Udev o about s t h = finally_stays o (final_target about) s t h

set_text_stays : (profile : Profile) (r : Rule) (e : _) (o : AssignOperator) (about : Target) (written : Text) (text : Rendered) (s : Scene)
    → Stays s (text_set profile (given_by r e o about written) text s)
set_text_stays profile r e o about written (rendered.Text t) s = given_stays profile r e o about written t s
set_text_stays profile r e o about written rendered.TooLong s =
    too_long_stays profile o about s (noted r TextTooLong (word_of_key (key_of_target about) (attribute_of_target about)) s) refl

emptied_stays : (o : AssignOperator) (about : Target) (s : Scene) → Stays s (emptied o about s)
emptied_stays Assign target.Symlink s = refl
emptied_stays AssignFinal target.Symlink s = refl
emptied_stays o about s = refl

rendered_stays : (profile : Profile) (r : Rule) (o : AssignOperator) (about : Target) (template : Template) (s : Scene) → Stays s (text_rendered profile (given_by r (escape_of r.sets) o about template.written) template s)
rendered_stays Manual r o about template s = set_text_stays Manual r (escape_of r.sets) o about template.written _ s
rendered_stays Udev r o about template s = set_text_stays Udev r (escape_of r.sets) o about template.written _ s

text_stays : (profile : Profile) (r : Rule) (o : AssignOperator) (about : Target) (template : Template) (s : Scene) → Stays s (text_step profile (given_by r (escape_of r.sets) o about template.written) template s)
text_stays Manual r o about template s = rendered_stays Manual r o about template s
text_stays Udev r o about template s = by (lacks_number about s.state.event.device.number)
  where
    by : (b : Bool) → Stays s (cond b (noted_key r NoDeviceNumber (key_of_target about) (attribute_of_target about) s) (text_rendered Udev (given_by r (escape_of r.sets) o about template.written) template (emptied o about s)))
    by true = refl
    by false = rendered_stays Udev r o about template (emptied o about s) ∙ emptied_stays o about s

-- ---- options and commands

option_stays : (known : RuleOption) (s : Scene) → Stays s (with_option known s)
option_stays (option.LinkPriority n) s = refl
option_stays option.Watch s = refl
option_stays option.NoWatch s = refl
option_stays option.DbPersist s = refl
option_stays known s = refl

command_stays : (r : Rule) (braces : Option RunType) (template : Template) (text : Text) (found : List Text) (s : Scene) → Stays s (command_made r braces template text found s)
command_stays r braces template text [] s = refl
command_stays r braces template text (word ∷ more) s = refl

made_stays : (r : Rule) (braces : Option RunType) (template : Template) (given : Rendered) (s : Scene) → Stays s (run_made r braces template given s)
made_stays r braces template (rendered.Text text) s = command_stays r braces template text (words text) s
made_stays r braces template rendered.TooLong s = refl

run_stays : (profile : Profile) (r : Rule) (o : AssignOperator) (braces : Option RunType) (template : Template) (s : Scene) → Stays s (run_step profile r o braces template s)
run_stays Manual r o braces template s = finally_stays o (Some final.Run) s (record s { runs = runs_after o s.runs (run_of r braces template s) }) refl
run_stays Udev r o braces template s =
    let given : Rendered = within most_command_bytes (render template s.state Plain) in
    let before : Scene = record s { made = made_before o s.made } in
    finally_stays o (Some final.Run) s (run_made r braces template given before) (made_stays r braces template given before)

by_stays : (profile : Profile) (r : Rule) (o : AssignOperator) (c : Change) (s : Scene) → Stays s (step_by profile r o c s)
by_stays profile r o (change.Option known) s = finally_stays o _ s (with_option known s) (option_stays known s)
by_stays profile r o (change.Text about template) s = text_stays profile r o about template s
by_stays profile r o (change.Run kind template) s = run_stays profile r o kind template s

-- an assignment
pub set_stays : (r : Rule) (a : Assignment) (s : Scene) → Stays s (set_step r s a)
unfolding set_step
set_stays r a s = by (is_settled (final_key s.state.event.profile a.change) s.finals)
  where
    by : (b : Bool) → Stays s (cond b s (step_by s.state.event.profile r a.operator a.change s))
    by true = refl
    by false = by_stays s.state.event.profile r a.operator a.change s
