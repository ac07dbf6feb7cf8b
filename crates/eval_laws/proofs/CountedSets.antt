-- How much an assignment of a rule adds to what is counted.
use Rattle.std.proofs.Common.{ℕ, zero, suc, ◌+◌, ◌≤◌, Bool, true, false, nat_lt, List, [], ◌∷◌, ◌++◌, length, Option, Some, None, ◌||◌, if◌then◌else◌, option_map, arith}
use Rattle.std.proofs.lemmas.List.Sums.{sum_by_push}
use Rattle.std.specs.List.{sum_by, list_any}
use Rattle.text_bytes.specs.Texts.{is_empty}
use Rattle.text_bytes.specs.declared.profile.Profile.{Profile}
use Rattle.text_bytes.specs.declared.profile.Profile.TheVariants.{Manual, Udev}
use Rattle.text_bytes.specs.Text.{Text}
use Rattle.text_tables.specs.Pairs.{value_of}
use Rattle.rule_types.specs.Names.{run_name}
use Rattle.rule_types.specs.Topics.{mode_of}
use Rattle.rule_types.specs.declared.types.RunType.{RunType}
use Rattle.rule_tokens.specs.Template.{Parts as Template}
use Rattle.rule_types.specs.Written.{attribute_of_target, key_of_target}
use Rattle.rule_types.specs.declared.roles.AssignOperator.{AssignOperator}
use Rattle.rule_types.specs.declared.roles.AssignOperator.TheVariants.{Assign, Add, Remove, AssignFinal}
use Rattle.rule_types.specs.declared.roles.Target.{Target}
use Rattle.rule_types.specs.declared.roles.Target.TheVariants as target
use Rattle.rule_types.specs.declared.keys.Key.TheVariants as key
use Rattle.rule_types.specs.declared.rule_option.RuleOption.{RuleOption}
use Rattle.rule_types.specs.declared.rule_option.RuleOption.TheVariants as option
use Rattle.rule_types.specs.declared.part.Assignment.{Assignment}
use Rattle.rule_types.specs.declared.part.Change.{Change}
use Rattle.rule_types.specs.declared.part.Change.TheVariants as change
use Rattle.rule_types.specs.Rules.{Rule}
use Rattle.eval_state.specs.Texts.{or_empty}
use Rattle.eval_rendering.specs.Bounds.{most_command_bytes, most_path_bytes, sysfs_path, within}
use Rattle.eval_rendering.specs.Rendering.{render, rendered_as_udev}
use Rattle.eval_rendering.specs.declared.rendered.Mode.TheVariants.{Plain}
use Rattle.eval_rendering.specs.declared.rendered.Rendered.{Rendered}
use Rattle.eval_rendering.specs.declared.rendered.Rendered.TheVariants as rendered
use Rattle.eval_state.specs.Named.{NamedValue, named, named_place}
use Rattle.eval_state.specs.Notes.{note_about, word_of_key}
use Rattle.eval_state.specs.Runs.{RunValue, runs_after, same_run, with_run}
use Rattle.eval_state.specs.Scenes.{noted, noted_key}
use Rattle.eval_state.specs.declared.notes.Note.{Note}
use Rattle.eval_state.specs.declared.finals.FinalKey.{FinalKey}
use Rattle.eval_state.specs.declared.finals.FinalKey.TheVariants as final
use Rattle.eval_state.specs.declared.note_kind.NoteKind.{NoteKind}
use Rattle.eval_state.specs.declared.note_kind.NoteKind.TheVariants.{AttributeNotFound, LinkIgnored, ModeIgnored, NameIgnored, NoDeviceNumber, NoValue, TagIgnored, TextTooLong}
use Rattle.eval_state.specs.declared.scene.Scene.{Scene}
use Rattle.eval_assignments.specs.Assigning.{assigned, group_set, link_text, owner_set, with_option}
use Rattle.eval_state.specs.Files.{starred}
use Rattle.eval_assignments.specs.Attributes.{attribute_put, attribute_set_at, attribute_set_by, found_above, own_attribute_set}
use Rattle.eval_assignments.specs.Bounds.{most_bytes_of}
use Rattle.eval_assignments.specs.Escapes.{escape_of}
use Rattle.eval_assignments.specs.Escapes as escapes
use Rattle.eval_assignments.specs.Finality.{final_key, final_option, final_target, finally, is_settled, settled}
use Rattle.eval_assignments.specs.Inner.{given_by}
use Rattle.eval_assignments.specs.Links.{first_refused, link_noted, links_changed, plain_links, words}
use Rattle.eval_assignments.specs.Lists.{changed}
use Rattle.eval_assignments.specs.Modes.{mode_read, mode_set}
use Rattle.eval_assignments.specs.Parameters.{parameter_put}
use Rattle.eval_assignments.specs.Properties.{appended, env_text, extended, property_added, property_changed, property_extended, property_joined, property_put, udev_property_changed}
use Rattle.eval_assignments.specs.Runs.{command_made, made_before, run_made, run_of}
use Rattle.eval_assignments.specs.Steps.{emptied, finally_too_long, is_ignored, lacks_number, run_step, set_step, step_by, text_given, text_rendered, text_set, text_step}
use Rattle.eval_assignments.specs.Tags.{is_tag, tag_added, tag_changed, with_tag, without_tags}
use Rattle.eval_assignments.specs.declared.escapes.Escape.{Escape}
use Rattle.eval_rules.specs.Jumps.{run}
use Rattle.eval_laws.proofs.Measured.{measured, noted_more}

module _ (w : Note → ℕ) (v : RunValue → ℕ) (c : Rule → ℕ) (light : (r : Rule) (kind : NoteKind) (text : Text) → w (note_about r kind text) ≤ c r) (late : (run : RunValue) → v run ≤ c run.rule) where
  abbrev counted : Scene → ℕ
  counted s = measured w v s

  with_run_counts : (runs : List RunValue) (run : RunValue) → sum_by v (with_run runs run) ≤ sum_by v runs + v run
  with_run_counts runs run = by (is_empty run.template.written || list_any (same_run run) runs)
    where
      by : (b : Bool) → sum_by v (if b then runs else runs ++ run ∷ []) ≤ sum_by v runs + v run
      by true = omega arith
      by false = let a = sum_by_push v runs run in omega (arith, a)

  runs_counts : (o : AssignOperator) (runs : List RunValue) (run : RunValue) → sum_by v (runs_after o runs run) ≤ sum_by v runs + v run
  runs_counts Add runs run = with_run_counts runs run
  runs_counts Assign runs run = let a = with_run_counts [] run in omega (arith, a)
  runs_counts Remove runs run = let a = with_run_counts [] run in omega (arith, a)
  runs_counts AssignFinal runs run = let a = with_run_counts [] run in omega (arith, a)

  settled_counts : (k : Option FinalKey) (s : Scene) → counted (settled k s) ≤ counted s
  settled_counts None s = omega arith
  settled_counts (Some k) s = omega arith

  finally_counts : (o : AssignOperator) (k : Option FinalKey) (s : Scene) → counted (finally o k s) ≤ counted s
  finally_counts AssignFinal k s = settled_counts k s
  finally_counts Assign k s = omega arith
  finally_counts Add k s = omega arith
  finally_counts Remove k s = omega arith

  option_counts : (known : RuleOption) (s : Scene) → counted (with_option known s) ≤ counted s
  option_counts (option.LinkPriority m) s = omega arith
  option_counts option.Watch s = omega arith
  option_counts option.NoWatch s = omega arith
  option_counts option.DbPersist s = omega arith
  option_counts option.KeepEscapes s = omega arith
  option_counts option.ReplaceEscapes s = omega arith
  option_counts option.LogLevel s = omega arith
  option_counts option.Ignored s = omega arith

  emptied_counts : (o : AssignOperator) (about : Target) (s : Scene) → counted (emptied o about s) ≤ counted s
  emptied_counts Assign target.Symlink s = omega arith
  emptied_counts AssignFinal target.Symlink s = omega arith
  emptied_counts o about s = omega arith

  module _ (r : Rule) (s : Scene) where
    joined_counts : (name : Text) (value : Option Text) → counted (property_joined r name value s) ≤ counted s + c r
    joined_counts name None = noted_more w v c light r s TextTooLong (word_of_key key.Env (Some name))
    joined_counts name (Some value) = omega arith

    added_counts : (name t : Text) → counted (property_added r name t s) ≤ counted s + c r
    added_counts name [] = omega arith
    added_counts name (b ∷ t) = joined_counts name (appended (or_empty (value_of s.state.env name)) (b ∷ t))

    put_counts : (name : Text) (value : Option Text) → counted (property_put r name value s) ≤ counted s + c r
    put_counts name None = noted_more w v c light r s TextTooLong (word_of_key key.Env (Some name))
    put_counts name (Some value) = omega arith

    extended_counts : (name written t : Text) → counted (property_extended r name written t s) ≤ counted s + c r
    extended_counts name [] t = omega arith
    extended_counts name (b ∷ written) t = put_counts name (extended (value_of s.state.env name) t)

    property_counts : (o : AssignOperator) (name t : Text) → counted (property_changed r o name t s) ≤ counted s + c r
    property_counts Add name t = added_counts name t
    property_counts Assign name t = omega arith
    property_counts Remove name t = omega arith
    property_counts AssignFinal name t = omega arith

    udev_property_counts : (e : Escape) (o : AssignOperator) (name written t : Text) → counted (udev_property_changed r e o name written t s) ≤ counted s + c r
    udev_property_counts e Add name written t = extended_counts name written (env_text e t)
    udev_property_counts e Assign name written t = omega arith
    udev_property_counts e Remove name written t = omega arith
    udev_property_counts e AssignFinal name written t = omega arith

    owner_counts : (t : Text) → counted (owner_set r t s) ≤ counted s + c r
    owner_counts [] = noted_more w v c light r s NoValue (word_of_key key.Owner None)
    owner_counts (b ∷ t) = omega arith

    group_counts : (t : Text) → counted (group_set r t s) ≤ counted s + c r
    group_counts [] = noted_more w v c light r s NoValue (word_of_key key.Group None)
    group_counts (b ∷ t) = omega arith

    read_counts : (t : Text) (mode : Option ℕ) → counted (mode_read r t mode s) ≤ counted s + c r
    read_counts t None = noted_more w v c light r s ModeIgnored t
    read_counts t (Some mode) = omega arith

    mode_counts : (t : Text) → counted (mode_set r t s) ≤ counted s + c r
    mode_counts [] = noted_more w v c light r s NoValue (word_of_key key.Mode None)
    mode_counts (b ∷ t) = read_counts (b ∷ t) (mode_of (b ∷ t))

    tag_counts : (t : Text) → counted (tag_added r t s) ≤ counted s + c r
    tag_counts [] = noted_more w v c light r s NoValue (word_of_key key.Tag None)
    tag_counts (b ∷ t) = by (is_tag (b ∷ t))
      where
        by : (is : Bool) → counted (if is then with_tag (b ∷ t) s else noted r TagIgnored (b ∷ t) s) ≤ counted s + c r
        by true = omega arith
        by false = noted_more w v c light r s TagIgnored (b ∷ t)

    link_counts : (path : Option Text) → counted (link_noted r path s) ≤ counted s + c r
    link_counts None = omega arith
    link_counts (Some path) = noted_more w v c light r s LinkIgnored path

    found_counts : (name : Text) (found : Option Text) (t : Text) → counted (attribute_put r name found t s) ≤ counted s + c r
    found_counts name None t = noted_more w v c light r s AttributeNotFound name
    found_counts name (Some found) t = omega arith

    own_counts : (name t : Text) → counted (own_attribute_set r name t s) ≤ counted s + c r
    own_counts name t = by (nat_lt most_path_bytes (length (sysfs_path s.state.event.device name)))
      where
        by : (b : Bool) → counted (if b then noted_key r TextTooLong key.Attr (Some name) s else attribute_put r name (starred s.state.event.device name) t s) ≤ counted s + c r
        by true = noted_more w v c light r s TextTooLong (word_of_key key.Attr (Some name))
        by false = found_counts name (starred s.state.event.device name) t

    at_counts : (place : Option ℕ) (is : NamedValue) (name t : Text) → counted (attribute_set_at place is r name t s) ≤ counted s + c r
    at_counts None is name t = own_counts name t
    at_counts (Some zero) is name t = found_counts name (starred s.state.event.device is.attribute) t
    at_counts (Some (suc above)) is name t = found_counts name (found_above s.state.event (suc above) is name) t

    by_counts : (is : Option NamedValue) (name t : Text) → counted (attribute_set_by is r name t s) ≤ counted s + c r
    by_counts None name t = own_counts name t
    by_counts (Some is) name t = at_counts (named_place is s.state.event) is name t

    parameter_counts : (name : Text) (text : Rendered) (t : Text) → counted (parameter_put r name text t s) ≤ counted s + c r
    parameter_counts name rendered.TooLong t = noted_more w v c light r s TextTooLong (word_of_key key.Sysctl (Some name))
    parameter_counts name (rendered.Text text) t = omega arith

    after_counts : (profile : Profile) (o : AssignOperator) (about : Target) (u : Scene) → counted (finally_too_long profile o about u) ≤ counted u
    after_counts Manual o about u = omega arith
    after_counts Udev o about u = finally_counts o (final_target about) u

    command_counts : (braces : Option RunType) (template : Template) (text : Text) (ws : List Text) → counted (command_made r braces template text ws s) ≤ counted s + c r
    command_counts braces template text [] = noted_more w v c light r s NoValue (word_of_key key.Run (option_map run_name braces))
    command_counts braces template text (word ∷ ws) = omega arith

    made_counts : (braces : Option RunType) (template : Template) (given : Rendered) → counted (run_made r braces template given s) ≤ counted s + c r
    made_counts braces template rendered.TooLong = noted_more w v c light r s TextTooLong (word_of_key key.Run (option_map run_name braces))
    made_counts braces template (rendered.Text text) = command_counts braces template text (words text)

  module _ (r : Rule) (s : Scene) where
    tags_counts : (o : AssignOperator) (t : Text) → counted (tag_changed r o t s) ≤ counted s + c r
    tags_counts Remove t = omega arith
    tags_counts Add t = tag_counts r s t
    tags_counts Assign t = tag_counts r (without_tags s) t
    tags_counts AssignFinal t = tag_counts r (without_tags s) t

    links_counts : (o : AssignOperator) (t : Text) → counted (links_changed r o t s) ≤ counted s + c r
    links_counts o t = link_counts r (record s { state = record s.state { links = changed o (plain_links (words t)) s.state.links } }) (first_refused (words t))

    assigned_counts : (profile : Profile) (e : Escape) (o : AssignOperator) (about : Target) (written t : Text) → counted (assigned profile about (given_by r e o about written) t s) ≤ counted s + c r
    assigned_counts Manual e o target.Owner written t = omega arith
    assigned_counts Manual e o target.Group written t = omega arith
    assigned_counts Manual e o target.Mode written t = omega arith
    assigned_counts Manual e o target.Tag written t = omega arith
    assigned_counts Manual e o (target.Seclabel name) written t = omega arith
    assigned_counts Manual e o (target.Env name) written t = property_counts r s o name t
    assigned_counts Manual e o target.Name written t = omega arith
    assigned_counts Manual e o target.Symlink written t = omega arith
    assigned_counts Manual e o (target.Attr name) written t = omega arith
    assigned_counts Manual e o (target.Sysctl name) written t = omega arith
    assigned_counts Udev e o target.Owner written t = owner_counts r s t
    assigned_counts Udev e o target.Group written t = group_counts r s t
    assigned_counts Udev e o target.Mode written t = mode_counts r s t
    assigned_counts Udev e o target.Tag written t = tags_counts o t
    assigned_counts Udev e o (target.Seclabel name) written t = omega arith
    assigned_counts Udev e o (target.Env name) written t = udev_property_counts r s e o name written t
    assigned_counts Udev e o target.Name written t = omega arith
    assigned_counts Udev e o target.Symlink written t = links_counts o (link_text e t)
    assigned_counts Udev e o (target.Attr name) written t = by_counts r s (named name) name t
    assigned_counts Udev e o (target.Sysctl name) written t = parameter_counts r s name (within most_path_bytes (rendered_as_udev name s.state)) t

    given_counts : (profile : Profile) (e : Escape) (o : AssignOperator) (about : Target) (written t : Text) → counted (text_given profile (given_by r e o about written) t s) ≤ counted s + c r
    given_counts profile e o about written t = by (is_ignored profile about s)
      where
        by : (b : Bool) → counted (if b then noted r NameIgnored t s else finally o (final_target about) (assigned profile about (given_by r e o about written) t s)) ≤ counted s + c r
        by true = noted_more w v c light r s NameIgnored t
        by false =
            let a = finally_counts o (final_target about) (assigned profile about (given_by r e o about written) t s) in
            let b = assigned_counts profile e o about written t in
            omega (arith, a, b)

    text_counts : (profile : Profile) (e : Escape) (o : AssignOperator) (about : Target) (written : Text) (given : Rendered) → counted (text_set profile (given_by r e o about written) given s) ≤ counted s + c r
    text_counts profile e o about written (rendered.Text t) = given_counts profile e o about written t
    text_counts profile e o about written rendered.TooLong =
        let word : Text = word_of_key (key_of_target about) (attribute_of_target about) in
        let a = after_counts r s profile o about (noted r TextTooLong word s) in
        let b = noted_more w v c light r s TextTooLong word in
        omega (arith, a, b)

  module _ (r : Rule) (s : Scene) where
    rendered_counts : (profile : Profile) (o : AssignOperator) (about : Target) (template : Template) → counted (text_rendered profile (given_by r (escape_of r.sets) o about template.written) template s) ≤ counted s + c r
    rendered_counts Manual o about template = text_counts r s Manual (escape_of r.sets) o about template.written (render template s.state (escapes.mode_of Manual about (escape_of r.sets)))
    rendered_counts Udev o about template =
        text_counts r s Udev (escape_of r.sets) o about template.written (within (most_bytes_of about) (render template s.state (escapes.mode_of Udev about (escape_of r.sets))))

  module _ (r : Rule) (s : Scene) where
    step_counts : (profile : Profile) (o : AssignOperator) (about : Target) (template : Template) → counted (text_step profile (given_by r (escape_of r.sets) o about template.written) template s) ≤ counted s + c r
    step_counts Manual o about template = rendered_counts r s Manual o about template
    step_counts Udev o about template = by (lacks_number about s.state.event.device.number)
      where
        by : (b : Bool) → counted (if b then noted_key r NoDeviceNumber (key_of_target about) (attribute_of_target about) s else text_rendered Udev (given_by r (escape_of r.sets) o about template.written) template (emptied o about s)) ≤ counted s + c r
        by true = noted_more w v c light r s NoDeviceNumber (word_of_key (key_of_target about) (attribute_of_target about))
        by false =
            let a = rendered_counts r (emptied o about s) Udev o about template in
            let b = emptied_counts o about s in
            omega (arith, a, b)

    taken_counts : (profile : Profile) (o : AssignOperator) (braces : Option RunType) (template : Template) → counted (run_step profile r o braces template s) ≤ counted s + c r
    taken_counts Manual o braces template =
        let a = finally_counts o (Some final.Run) (record s { runs = runs_after o s.runs (run_of r braces template s) }) in
        let b = runs_counts o s.runs (run_of r braces template s) in
        let d = late (run_of r braces template s) in
        omega (arith, a, b, d)
    taken_counts Udev o braces template =
        let given : Rendered = within most_command_bytes (render template s.state Plain) in
        let fewer : Scene = record s { made = made_before o s.made } in
        let a = finally_counts o (Some final.Run) (run_made r braces template given fewer) in
        let b = made_counts r fewer braces template given in
        omega (arith, a, b)

    change_counts : (profile : Profile) (o : AssignOperator) (changed_so : Change) → counted (step_by profile r o changed_so s) ≤ counted s + c r
    change_counts profile o (change.Option known) =
        let a = finally_counts o (final_option profile known) (with_option known s) in
        let b = option_counts known s in
        omega (arith, a, b)
    change_counts profile o (change.Text about template) = step_counts profile o about template
    change_counts profile o (change.Run braces template) = taken_counts profile o braces template

    -- an assignment of a rule
    pub set_counts : (a : Assignment) → counted (set_step r s a) ≤ counted s + c r
    unfolding set_step
    set_counts a = by (is_settled (final_key s.state.event.profile a.change) s.finals)
      where
        by : (b : Bool) → counted (if b then s else step_by s.state.event.profile r a.operator a.change s) ≤ counted s + c r
        by true = omega arith
        by false = change_counts s.state.event.profile a.operator a.change
