-- An assignment changes nothing but what it is about.
use Rattle.std.proofs.Common.{◌≡◌, ℕ, zero, suc, Bool, true, false, cond, not, List, [], ◌∷◌, length, nat_lt, Option, Some, None, refl, ap, sym, ◌∙◌}
use Rattle.std.specs.Cmp.Lexicographic.{bytes_decides}
use Rattle.text_bytes.specs.declared.profile.Profile.{Profile}
use Rattle.text_bytes.specs.declared.profile.Profile.TheVariants.{Manual, Udev}
use Rattle.text_bytes.specs.Text.{Text}
use Rattle.text_tables.specs.Texts.{same_text}
use Rattle.text_tables.specs.Pairs.{Pair, value_of, with_value, without_name}
use Rattle.rule_tokens.specs.Template.{Parts as Template}
use Rattle.rule_types.specs.Written.{attribute_of_target, key_of_target}
use Rattle.rule_types.specs.declared.roles.AssignOperator.{AssignOperator}
use Rattle.rule_types.specs.declared.roles.AssignOperator.TheVariants.{Add, Assign, AssignFinal, Remove}
use Rattle.rule_types.specs.declared.roles.Target.{Target}
use Rattle.rule_types.specs.declared.roles.Target.TheVariants as target
use Rattle.rule_types.specs.declared.rule_option.RuleOption.{RuleOption}
use Rattle.rule_types.specs.declared.rule_option.RuleOption.TheVariants as option
use Rattle.rule_types.specs.declared.types.RunType.{RunType}
use Rattle.rule_types.specs.Topics.{mode_of as mode_in}
use Rattle.rule_types.specs.declared.part.Assignment.{Assignment}
use Rattle.rule_types.specs.declared.part.Change.{Change}
use Rattle.rule_types.specs.declared.part.Change.TheVariants as change
use Rattle.rule_types.specs.declared.keys.Key.TheVariants as key
use Rattle.rule_types.specs.Rules.{Rule}
use Rattle.eval_state.specs.Files.{starred}
use Rattle.eval_state.specs.Named.{NamedValue, named}
use Rattle.eval_rendering.specs.Bounds.{most_command_bytes, most_path_bytes, sysfs_path, within}
use Rattle.eval_rendering.specs.Rendering.{render}
use Rattle.eval_rendering.specs.declared.rendered.Mode.TheVariants.{Plain}
use Rattle.eval_rendering.specs.declared.rendered.Rendered.{Rendered}
use Rattle.eval_rendering.specs.declared.rendered.Rendered.TheVariants as rendered
use Rattle.eval_state.specs.Properties.{property_set}
use Rattle.eval_state.specs.Scenes.{noted, noted_key, with_env}
use Rattle.eval_state.specs.declared.finals.FinalKey.{FinalKey}
use Rattle.eval_state.specs.declared.note_kind.NoteKind.TheVariants.{NameIgnored, NoDeviceNumber, TagIgnored, TextTooLong}
use Rattle.eval_state.specs.declared.scene.Scene.{Scene}
use Rattle.eval_assignments.specs.Assigning.{assigned, group_set, link_text, owner_set, with_option}
use Rattle.eval_assignments.specs.Attributes.{attribute_put, attribute_set, attribute_set_at, attribute_set_by, own_attribute_set}
use Rattle.eval_assignments.specs.Escapes.{escape_of}
use Rattle.eval_assignments.specs.Finality.{final_key, final_target, finally, is_settled}
use Rattle.eval_assignments.specs.Inner.{given_by}
use Rattle.eval_assignments.specs.Links.{first_refused, link_noted, words}
use Rattle.eval_assignments.specs.Modes.{mode_read, mode_set}
use Rattle.eval_assignments.specs.Parameters.{parameter_put}
use Rattle.eval_assignments.specs.Properties.{env_text, property_added, property_changed, property_extended, property_joined, property_put, udev_property_changed}
use Rattle.eval_assignments.specs.Runs.{command_made, made_before, run_made}
use Rattle.eval_assignments.specs.Steps.{emptied, finally_too_long, is_ignored, lacks_number, run_step, set_step, step_by, text_given, text_rendered, text_set, text_step}
use Rattle.eval_assignments.specs.Tags.{is_tag, tag_added, tag_changed, with_tag, without_tags}
use Rattle.eval_assignments.specs.declared.escapes.Escape.{Escape}
use Rattle.eval_laws.specs.Scopes.{but_for, but_for_option, but_for_text, unmarked}

-- ---- properties of other names

own : (name : Text) → same_text name name ≡ true
own name = (bytes_decides name name).1 refl

removed_twice : (env : List Pair) (name : Text) → without_name (without_name env name) name ≡ without_name env name
removed_twice [] name = refl
removed_twice (p ∷ ps) name = by (same_text name p.0) refl (removed_twice ps name)
  where
    by : (b : Bool) → same_text name p.0 ≡ b → without_name (without_name ps name) name ≡ without_name ps name
        → without_name (cond (not b) (p ∷ without_name ps name) (without_name ps name)) name ≡ cond (not b) (p ∷ without_name ps name) (without_name ps name)
    by true e more = more
    by false e more =
        ap (λ b. cond (not b) (p ∷ without_name (without_name ps name) name) (without_name (without_name ps name) name)) e
        ∙ ap (λ (l : List Pair). p ∷ l) more

others_stay : (env : List Pair) (name value : Text) → without_name (with_value env name value) name ≡ without_name env name
others_stay [] name value = ap (λ b. cond (not b) ((name, value) ∷ []) []) (own name)
others_stay (p ∷ ps) name value = by (same_text name p.0) refl (others_stay ps name value)
  where
    by : (b : Bool) → same_text name p.0 ≡ b → without_name (with_value ps name value) name ≡ without_name ps name
        → without_name (cond b ((p.0, value) ∷ ps) (p ∷ with_value ps name value)) name ≡ without_name (p ∷ ps) name
    by true e more =
        ap (λ b. cond (not b) ((p.0, value) ∷ without_name ps name) (without_name ps name)) e
        ∙ sym (ap (λ b. cond (not b) (p ∷ without_name ps name) (without_name ps name)) e)
    by false e more = ap (λ (l : List Pair). cond (not (same_text name p.0)) (p ∷ l) l) more

set_stays : (env : List Pair) (name t : Text) → without_name (property_set name t env) name ≡ without_name env name
set_stays env name [] = removed_twice env name
set_stays env name (b ∷ t) = others_stay env name (b ∷ t)

-- ---- a text

-- two scenes are the same but for what a text that is assigned to a key sets
abbrev Alike : Target → Scene → Scene → Type 0
Alike about s t = but_for_text about (unmarked t) ≡ but_for_text about (unmarked s)

finally_alike : (about : Target) (o : AssignOperator) (k : Option FinalKey) (s t : Scene) → Alike about s t → Alike about s (finally o k t)
finally_alike about AssignFinal (Some k) s t h = h
finally_alike about AssignFinal None s t h = h
finally_alike about o k s t h = h

owner_alike : (r : Rule) (t : Text) (s : Scene) → Alike target.Owner s (owner_set r t s)
owner_alike r [] s = refl
owner_alike r (b ∷ t) s = refl

group_alike : (r : Rule) (t : Text) (s : Scene) → Alike target.Group s (group_set r t s)
group_alike r [] s = refl
group_alike r (b ∷ t) s = refl

mode_read_alike : (r : Rule) (t : Text) (mode : Option ℕ) (s : Scene) → Alike target.Mode s (mode_read r t mode s)
mode_read_alike r t None s = refl
mode_read_alike r t (Some mode) s = refl

mode_alike : (r : Rule) (t : Text) (s : Scene) → Alike target.Mode s (mode_set r t s)
mode_alike r [] s = refl
mode_alike r (b ∷ t) s = mode_read_alike r (b ∷ t) (mode_in (b ∷ t)) s

tag_added_alike : (r : Rule) (t : Text) (s : Scene) → Alike target.Tag s (tag_added r t s)
tag_added_alike r [] s = refl
tag_added_alike r (b ∷ t) s = by (is_tag (b ∷ t))
  where
    by : (v : Bool) → Alike target.Tag s (cond v (with_tag (b ∷ t) s) (noted r TagIgnored (b ∷ t) s))
    by true = refl
    by false = refl

tag_alike : (r : Rule) (o : AssignOperator) (t : Text) (s : Scene) → Alike target.Tag s (tag_changed r o t s)
tag_alike r Remove t s = refl
tag_alike r Add t s = tag_added_alike r t s
tag_alike r o t s = tag_added_alike r t (without_tags s)

link_noted_alike : (r : Rule) (path : Option Text) (s : Scene) → Alike target.Symlink s (link_noted r path s)
link_noted_alike r None s = refl
link_noted_alike r (Some path) s = refl

module _ (name : Text) where
  env_alike : (env : List Pair) (s : Scene) → without_name env name ≡ without_name s.state.env name → Alike (target.Env name) s (with_env env s)
  env_alike env s h = ap (λ (l : List Pair). with_env l (unmarked s)) h

  joined_alike : (r : Rule) (value : Option Text) (s : Scene) → Alike (target.Env name) s (property_joined r name value s)
  joined_alike r None s = refl
  joined_alike r (Some value) s = env_alike (with_value s.state.env name value) s (others_stay s.state.env name value)

  property_alike : (r : Rule) (o : AssignOperator) (t : Text) (s : Scene) → Alike (target.Env name) s (property_changed r o name t s)
  property_alike r Add [] s = refl
  property_alike r Add (b ∷ t) s = joined_alike r _ s
  property_alike r o t s = env_alike (property_set name t s.state.env) s (set_stays s.state.env name t)

  put_alike : (r : Rule) (value : Option Text) (s : Scene) → Alike (target.Env name) s (property_put r name value s)
  put_alike r None s = refl
  put_alike r (Some value) s = env_alike (property_set name value s.state.env) s (set_stays s.state.env name value)

  extended_alike : (r : Rule) (written t : Text) (s : Scene) → Alike (target.Env name) s (property_extended r name written t s)
  extended_alike r [] t s = refl
  extended_alike r (b ∷ written) t s = put_alike r _ s

  udev_property_alike : (r : Rule) (e : Escape) (o : AssignOperator) (written t : Text) (s : Scene) → Alike (target.Env name) s (udev_property_changed r e o name written t s)
  udev_property_alike r e Add written t s = extended_alike r written (env_text e t) s
  udev_property_alike r e o written t s = env_alike (property_set name (env_text e t) s.state.env) s (set_stays s.state.env name (env_text e t))

  attribute_put_alike : (r : Rule) (called : Text) (found : Option Text) (t : Text) (s : Scene) → Alike (target.Attr name) s (attribute_put r called found t s)
  attribute_put_alike r called None t s = refl
  attribute_put_alike r called (Some found) t s = refl

  own_attribute_alike : (r : Rule) (called t : Text) (s : Scene) → Alike (target.Attr name) s (own_attribute_set r called t s)
  own_attribute_alike r called t s = by (nat_lt most_path_bytes (length (sysfs_path s.state.event.device called)))
    where
      by : (b : Bool) → Alike (target.Attr name) s (cond b (noted_key r TextTooLong key.Attr (Some called) s) (attribute_put r called (starred s.state.event.device called) t s))
      by true = refl
      by false = attribute_put_alike r called (starred s.state.event.device called) t s

  attribute_at_alike : (place : Option ℕ) (n : NamedValue) (r : Rule) (called t : Text) (s : Scene) → Alike (target.Attr name) s (attribute_set_at place n r called t s)
  attribute_at_alike None n r called t s = own_attribute_alike r called t s
  attribute_at_alike (Some zero) n r called t s = attribute_put_alike r called _ t s
  attribute_at_alike (Some (suc above)) n r called t s = attribute_put_alike r called _ t s

  attribute_by_alike : (found : Option NamedValue) (r : Rule) (called t : Text) (s : Scene) → Alike (target.Attr name) s (attribute_set_by found r called t s)
  attribute_by_alike None r called t s = own_attribute_alike r called t s
  attribute_by_alike (Some n) r called t s = attribute_at_alike _ n r called t s

  parameter_alike : (r : Rule) (written : Text) (called : Rendered) (t : Text) (s : Scene) → Alike (target.Sysctl name) s (parameter_put r written called t s)
  parameter_alike r written rendered.TooLong t s = refl
  parameter_alike r written (rendered.Text called) t s = refl

assigned_alike : (profile : Profile) (r : Rule) (e : Escape) (o : AssignOperator) (about : Target) (written t : Text) (s : Scene) → Alike about s (assigned profile about (given_by r e o about written) t s)
assigned_alike Manual r e o target.Owner written t s = refl
assigned_alike Manual r e o target.Group written t s = refl
assigned_alike Manual r e o target.Mode written t s = refl
assigned_alike Manual r e o target.Tag written t s = refl
assigned_alike Manual r e o (target.Seclabel name) written t s = refl
assigned_alike Manual r e o (target.Env name) written t s = property_alike name r o t s
assigned_alike Manual r e o target.Name written t s = refl
assigned_alike Manual r e o target.Symlink written t s = refl
assigned_alike Manual r e o (target.Attr name) written t s = refl
assigned_alike Manual r e o (target.Sysctl name) written t s = refl
assigned_alike Udev r e o target.Owner written t s = owner_alike r t s
assigned_alike Udev r e o target.Group written t s = group_alike r t s
assigned_alike Udev r e o target.Mode written t s = mode_alike r t s
assigned_alike Udev r e o target.Tag written t s = tag_alike r o t s
assigned_alike Udev r e o (target.Seclabel name) written t s = refl
assigned_alike Udev r e o (target.Env name) written t s = udev_property_alike name r e o written t s
assigned_alike Udev r e o target.Name written t s = refl
assigned_alike Udev r e o target.Symlink written t s = link_noted_alike r (first_refused (words (link_text e t))) _
assigned_alike Udev r e o (target.Attr name) written t s = attribute_by_alike name (named name) r name t s
assigned_alike Udev r e o (target.Sysctl name) written t s = parameter_alike name r name _ t s

module _ (r : Rule) (e : Escape) (o : AssignOperator) (about : Target) (written : Text) where
  given_alike : (profile : Profile) (t : Text) (s : Scene) → Alike about s (text_given profile (given_by r e o about written) t s)
  given_alike profile t s = by (is_ignored profile about s)
    where
      by : (b : Bool) → Alike about s (cond b (noted r NameIgnored t s) (finally o (final_target about) (assigned profile about (given_by r e o about written) t s)))
      by true = refl
      by false = finally_alike about o (final_target about) s _ (assigned_alike profile r e o about written t s)

  too_long_alike : (profile : Profile) (s t : Scene) → Alike about s t → Alike about s (finally_too_long profile o about t)
  too_long_alike Manual s t h = h
  too_long_alike Udev s t h = finally_alike about o (final_target about) s t h

  text_alike : (profile : Profile) (text : Rendered) (s : Scene) → Alike about s (text_set profile (given_by r e o about written) text s)
  text_alike profile (rendered.Text t) s = given_alike profile t s
  text_alike profile rendered.TooLong s = too_long_alike profile s (noted_key r TextTooLong (key_of_target about) (attribute_of_target about) s) refl

emptied_alike : (o : AssignOperator) (about : Target) (s : Scene) → Alike about s (emptied o about s)
emptied_alike Assign target.Symlink s = refl
emptied_alike AssignFinal target.Symlink s = refl
emptied_alike o about s = refl

step_alike : (profile : Profile) (r : Rule) (o : AssignOperator) (about : Target) (template : Template) (s : Scene)
    → Alike about s (text_step profile (given_by r (escape_of r.sets) o about template.written) template s)
step_alike Manual r o about template s = text_alike r (escape_of r.sets) o about template.written Manual _ s
step_alike Udev r o about template s = by (lacks_number about s.state.event.device.number)
  where
    by : (b : Bool) → Alike about s (cond b (noted_key r NoDeviceNumber (key_of_target about) (attribute_of_target about) s) (text_rendered Udev (given_by r (escape_of r.sets) o about template.written) template (emptied o about s)))
    by true = refl
    by false = text_alike r (escape_of r.sets) o about template.written Udev _ (emptied o about s) ∙ emptied_alike o about s

-- ---- options and commands

option_alike : (o : AssignOperator) (k : Option FinalKey) (known : RuleOption) (s : Scene) → but_for_option known (unmarked (finally o k (with_option known s))) ≡ but_for_option known (unmarked s)
option_alike o k known s = finally_same o k (with_option known s) ∙ set_same known
  where
    finally_same : (o : AssignOperator) (k : Option FinalKey) (t : Scene) → but_for_option known (unmarked (finally o k t)) ≡ but_for_option known (unmarked t)
    finally_same AssignFinal (Some k) t = refl
    finally_same AssignFinal None t = refl
    finally_same o k t = refl

    set_same : (known : RuleOption) → but_for_option known (unmarked (with_option known s)) ≡ but_for_option known (unmarked s)
    set_same (option.LinkPriority n) = refl
    set_same option.Watch = refl
    set_same option.NoWatch = refl
    set_same option.DbPersist = refl
    set_same known = refl

-- a scene without what a RUN sets
abbrev without_runs : Scene → Scene
without_runs s = record (unmarked s) { runs = []; made = [] }

run_finally : (o : AssignOperator) (k : Option FinalKey) (s : Scene) → without_runs (finally o k s) ≡ without_runs s
run_finally AssignFinal (Some k) s = refl
run_finally AssignFinal None s = refl
run_finally o k s = refl

command_alike : (r : Rule) (braces : Option RunType) (template : Template) (text : Text) (found : List Text) (s : Scene) → without_runs (command_made r braces template text found s) ≡ without_runs s
command_alike r braces template text [] s = refl
command_alike r braces template text (word ∷ more) s = refl

made_alike : (r : Rule) (braces : Option RunType) (template : Template) (given : Rendered) (s : Scene) → without_runs (run_made r braces template given s) ≡ without_runs s
made_alike r braces template (rendered.Text text) s = command_alike r braces template text (words text) s
made_alike r braces template rendered.TooLong s = refl

run_alike : (profile : Profile) (r : Rule) (o : AssignOperator) (braces : Option RunType) (template : Template) (s : Scene) → without_runs (run_step profile r o braces template s) ≡ without_runs s
run_alike Manual r o braces template s = run_finally o _ _
run_alike Udev r o braces template s =
    run_finally o _ _
    ∙ made_alike r braces template (within most_command_bytes (render template s.state Plain)) (record s { made = made_before o s.made })

-- ---- an assignment

by_alike : (profile : Profile) (r : Rule) (o : AssignOperator) (c : Change) (s : Scene) → but_for c (step_by profile r o c s) ≡ but_for c s
by_alike profile r o (change.Option known) s = option_alike o _ known s
by_alike profile r o (change.Text about template) s = step_alike profile r o about template s
by_alike profile r o (change.Run braces template) s = run_alike profile r o braces template s

pub rest_stays : (r : Rule) (a : Assignment) (s : Scene) → but_for a.change (set_step r s a) ≡ but_for a.change s
unfolding set_step
rest_stays r a s = by (is_settled (final_key s.state.event.profile a.change) s.finals)
  where
    by : (b : Bool) → but_for a.change (cond b s (step_by s.state.event.profile r a.operator a.change s)) ≡ but_for a.change s
    by true = refl
    by false = by_alike s.state.event.profile r a.operator a.change s
