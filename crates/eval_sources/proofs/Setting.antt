-- What one assignment leaves as it was.
use Rattle.std.proofs.Common.{◌≡◌, ℕ, Bool, true, false, cond, ◌||◌, ◌&&◌, List, [], ◌∷◌, length, fold, flat_map, nat_lt, inl, Option, Some, None, codes, refl, ap, sym, ◌∙◌, subst}
use Rattle.std.specs.List.{list_any}
use Rattle.text_bytes.specs.declared.profile.Profile.{Profile}
use Rattle.text_bytes.specs.declared.profile.Profile.TheVariants.{Manual, Udev}
use Rattle.text_bytes.specs.Text.{Text}
use Rattle.text_tables.specs.Texts.{is_among, same_text}
use Rattle.text_tables.specs.Pairs.{Pair, value_of, with_value}
use Rattle.rule_tokens.specs.Template.{Parts as Template}
use Rattle.rule_types.specs.Written.{attribute_of_target, key_of_target}
use Rattle.rule_types.specs.declared.keys.Key.TheVariants as key
use Rattle.rule_types.specs.declared.roles.AssignOperator.{AssignOperator}
use Rattle.rule_types.specs.declared.roles.AssignOperator.TheVariants.{Assign, Add, AssignFinal}
use Rattle.rule_types.specs.declared.roles.Target.{Target}
use Rattle.rule_types.specs.declared.roles.Target.TheVariants as target
use Rattle.rule_types.specs.declared.rule_option.RuleOption.{RuleOption}
use Rattle.rule_types.specs.declared.rule_option.RuleOption.TheVariants as option
use Rattle.rule_types.specs.declared.types.RunType.{RunType}
use Rattle.rule_types.specs.Topics.{mode_of as mode_in}
use Rattle.rule_types.specs.declared.part.Assignment.{Assignment}
use Rattle.rule_types.specs.declared.part.Change.{Change}
use Rattle.rule_types.specs.declared.part.Change.TheVariants as change
use Rattle.rule_types.specs.Rules.{Rule}
use Rattle.device_core.specs.Values.{EventValue}
use Rattle.eval_rendering.specs.Bounds.{most_command_bytes, most_path_bytes, sysfs_path, within}
use Rattle.eval_rendering.specs.Rendering.{render, rendered_as_udev}
use Rattle.eval_rendering.specs.declared.rendered.Mode.TheVariants.{Plain}
use Rattle.eval_rendering.specs.declared.rendered.Rendered.{Rendered}
use Rattle.eval_rendering.specs.declared.rendered.Rendered.TheVariants as rendered
use Rattle.eval_state.specs.Notes.{word_of_key}
use Rattle.eval_state.specs.Properties.{property_set}
use Rattle.eval_state.specs.Runs.{runs_after}
use Rattle.eval_state.specs.Scenes.{noted, noted_key, with_env}
use Rattle.eval_state.specs.declared.finals.FinalKey.{FinalKey}
use Rattle.eval_state.specs.declared.finals.FinalKey.TheVariants as final
use Rattle.eval_state.specs.declared.note_kind.NoteKind.TheVariants.{NameIgnored, NoDeviceNumber, TagIgnored, TextTooLong}
use Rattle.eval_state.specs.declared.scene.Scene.{Scene}
use Rattle.eval_state.specs.declared.state.State.{State}
use Rattle.eval_assignments.specs.Assigning.{assigned, group_set, link_text, owner_set, unless_empty, with_option}
use Rattle.eval_assignments.specs.Attributes.{attribute_put, attribute_set}
use Rattle.eval_assignments.specs.Escapes.{escape_of}
use Rattle.eval_assignments.specs.Finality.{final_key, final_target, finally, is_settled}
use Rattle.eval_assignments.specs.Inner.{given_by}
use Rattle.eval_assignments.specs.Links.{first_refused, link_noted, plain_links, words}
use Rattle.eval_assignments.specs.Lists.{changed, link_names, one_tag}
use Rattle.eval_assignments.specs.Modes.{four_digits, mode_read, mode_set}
use Rattle.eval_assignments.specs.Names.{name_text}
use Rattle.eval_assignments.specs.Parameters.{parameter_name, parameter_put}
use Rattle.eval_assignments.specs.Properties.{env_text, property_changed, property_extended, property_joined, property_put, udev_property_changed}
use Rattle.eval_assignments.specs.Runs.{command_made, made_before, run_made, run_of}
use Rattle.eval_assignments.specs.Steps.{emptied, finally_too_long, is_ignored, lacks_number, run_step, set_step, step_by, text_given, text_rendered, text_set, text_step}
use Rattle.eval_assignments.specs.Tags.{is_tag, tag_added, with_tag}
use Rattle.eval_assignments.specs.Written.{found_attribute, is_own, parameter_in}
use Rattle.eval_assignments.specs.declared.escapes.Escape.{Escape}
use Rattle.eval_assignments.proofs.Staying.{set_stays}
use Rattle.eval_assignments.proofs.Writing.{attribute_is_set}
use Rattle.eval_effects.specs.Items.{item_name, node_items, pair_items}
use Rattle.eval_sources.specs.Touched.{is_wide, is_wide_text, named_by, named_by_text, node_words, written_named}
use Rattle.eval_sources.proofs.PlainNames.{rendered_alike}
use Rattle.eval_sources.proofs.Lookups.{no_node, no_word}
use Rattle.eval_sources.proofs.Framing.{Framed, among_append, extends_all, extends_self, framed_on, framed_self, pair_set, property_stays, shrinks_without}

first_false : (a b : Bool) → (a || b) ≡ false → a ≡ false
first_false true b h = cc
first_false false b h = refl

module _ (n : Text) where
  settled_too : (o : AssignOperator) (k : Option FinalKey) (s t : Scene) → Framed n s t → Framed n s (finally o k t)
  unfolding node_items
  settled_too AssignFinal (Some k) s t h = h
  settled_too AssignFinal None s t h = h
  settled_too o k s t h = h

  -- whatever is set of the node, other names are not there
  node_same : is_among node_words n ≡ false → (s t : Scene) → value_of (node_items t) n ≡ value_of (node_items s) n
  node_same h s t = no_node n (no_word n h) t ∙ sym (no_node n (no_word n h) s)

  module _ (apart : is_among node_words n ≡ false) where
    name_framed : (name : Option Text) (s : Scene) → Framed n s (record s { state = record s.state { name = name } })
    name_framed name s = (node_same apart s (record s { state = record s.state { name = name } }), refl, extends_self s.state.links, extends_self s.state.tags, inl refl, refl, refl, refl)

    owner_framed : (owner : Option Text) (s : Scene) → Framed n s (record s { owner = owner })
    owner_framed owner s = (node_same apart s (record s { owner = owner }), refl, extends_self s.state.links, extends_self s.state.tags, inl refl, refl, refl, refl)

    group_framed : (group : Option Text) (s : Scene) → Framed n s (record s { group = group })
    group_framed group s = (node_same apart s (record s { group = group }), refl, extends_self s.state.links, extends_self s.state.tags, inl refl, refl, refl, refl)

    mode_framed : (mode : Option Text) (s : Scene) → Framed n s (record s { mode = mode })
    mode_framed mode s = (node_same apart s (record s { mode = mode }), refl, extends_self s.state.links, extends_self s.state.tags, inl refl, refl, refl, refl)

    owner_set_framed : (r : Rule) (t : Text) (s : Scene) → Framed n s (owner_set r t s)
    unfolding node_items
    owner_set_framed r [] s = framed_self n s
    owner_set_framed r (b ∷ t) s = owner_framed (Some (b ∷ t)) s

    group_set_framed : (r : Rule) (t : Text) (s : Scene) → Framed n s (group_set r t s)
    unfolding node_items
    group_set_framed r [] s = framed_self n s
    group_set_framed r (b ∷ t) s = group_framed (Some (b ∷ t)) s

    mode_read_framed : (r : Rule) (t : Text) (mode : Option ℕ) (s : Scene) → Framed n s (mode_read r t mode s)
    unfolding node_items
    mode_read_framed r t None s = framed_self n s
    mode_read_framed r t (Some mode) s = mode_framed (Some (four_digits mode)) s

    mode_set_framed : (r : Rule) (t : Text) (s : Scene) → Framed n s (mode_set r t s)
    unfolding node_items
    mode_set_framed r [] s = framed_self n s
    mode_set_framed r (b ∷ t) s = mode_read_framed r (b ∷ t) (mode_in (b ∷ t)) s

    option_framed : (known : RuleOption) (s : Scene) → Framed n s (with_option known s)
    option_framed (option.LinkPriority m) s = (node_same apart s (record s { priority = Some m }), refl, extends_self s.state.links, extends_self s.state.tags, inl refl, refl, refl, refl)
    option_framed option.Watch s = (node_same apart s (record s { watch = Some true }), refl, extends_self s.state.links, extends_self s.state.tags, inl refl, refl, refl, refl)
    option_framed option.NoWatch s = (node_same apart s (record s { watch = Some false }), refl, extends_self s.state.links, extends_self s.state.tags, inl refl, refl, refl, refl)
    option_framed option.DbPersist s = (node_same apart s (record s { persist = true }), refl, extends_self s.state.links, extends_self s.state.tags, inl refl, refl, refl, refl)
    option_framed known s = framed_self n s

  -- ---- what each key makes of a text

  env_framed : (s : Scene) (env : List Pair) → value_of (pair_items (codes "env") env) n ≡ value_of (pair_items (codes "env") s.state.env) n → Framed n s (with_env env s)
  unfolding node_items
  env_framed s env h = (refl, refl, extends_self s.state.links, extends_self s.state.tags, inl refl, h, refl, refl)

  module _ (r : Rule) (name : Text) (apart : same_text n (item_name (codes "env") name) ≡ false) where
    set_framed : (t : Text) (s : Scene) → Framed n s (with_env (property_set name t s.state.env) s)
    set_framed t s = env_framed s (property_set name t s.state.env) (property_stays (codes "env") n name t s.state.env apart)

    joined_framed : (value : Option Text) (s : Scene) → Framed n s (property_joined r name value s)
    unfolding node_items
    joined_framed None s = framed_self n s
    joined_framed (Some value) s = env_framed s (with_value s.state.env name value) (pair_set (codes "env") n s.state.env name value apart)

    changed_framed : (o : AssignOperator) (t : Text) (s : Scene) → Framed n s (property_changed r o name t s)
    changed_framed Add [] s = framed_self n s
    changed_framed Add (b ∷ t) s = joined_framed _ s
    changed_framed o t s = set_framed t s

    put_framed : (value : Option Text) (s : Scene) → Framed n s (property_put r name value s)
    unfolding node_items
    put_framed None s = framed_self n s
    put_framed (Some value) s = set_framed value s

    extended_framed : (written t : Text) (s : Scene) → Framed n s (property_extended r name written t s)
    extended_framed [] t s = framed_self n s
    extended_framed (b ∷ written) t s = put_framed _ s

    udev_changed_framed : (e : Escape) (o : AssignOperator) (written t : Text) (s : Scene) → Framed n s (udev_property_changed r e o name written t s)
    udev_changed_framed e Add written t s = extended_framed written (env_text e t) s
    udev_changed_framed e o written t s = set_framed (env_text e t) s

  links_framed : (given : List Text) (s : Scene) → Framed n s (record s { state = record s.state { links = changed Add given s.state.links } })
  unfolding node_items
  links_framed given s = (refl, refl, extends_all given s.state.links, extends_self s.state.tags, inl refl, refl, refl, refl)

  noted_framed : (r : Rule) (path : Option Text) (s t : Scene) → Framed n s t → Framed n s (link_noted r path t)
  unfolding node_items
  noted_framed r None s t h = h
  noted_framed r (Some path) s t h = h

  tags_framed : (given : List Text) (s : Scene) → Framed n s (record s { state = record s.state { tags = changed Add given s.state.tags } })
  unfolding node_items
  tags_framed given s = (refl, refl, extends_self s.state.links, extends_all given s.state.tags, inl refl, refl, refl, refl)

  tag_framed : (t : Text) (s : Scene) → Framed n s (with_tag t s)
  unfolding node_items
  tag_framed t s = (refl, refl, extends_self s.state.links, extends_all (t ∷ []) s.state.tags, shrinks_without s.gone t, refl, refl, refl)

  tag_added_framed : (r : Rule) (t : Text) (s : Scene) → Framed n s (tag_added r t s)
  unfolding node_items
  tag_added_framed r [] s = framed_self n s
  tag_added_framed r (b ∷ t) s = by (is_tag (b ∷ t))
    where
      by : (v : Bool) → Framed n s (cond v (with_tag (b ∷ t) s) (noted r TagIgnored (b ∷ t) s))
      by true = tag_framed (b ∷ t) s
      by false = framed_self n s

  attrs_framed : (name t : Text) (s : Scene) → same_text n (item_name (codes "attr") name) ≡ false → Framed n s (record s { attrs = with_value s.attrs name t })
  unfolding node_items
  attrs_framed name t s apart = (refl, refl, extends_self s.state.links, extends_self s.state.tags, inl refl, refl, pair_set (codes "attr") n s.attrs name t apart, refl)

  sysctls_framed : (name t : Text) (s : Scene) → same_text n (item_name (codes "sysctl") name) ≡ false → Framed n s (record s { sysctls = with_value s.sysctls name t })
  unfolding node_items
  sysctls_framed name t s apart = (refl, refl, extends_self s.state.links, extends_self s.state.tags, inl refl, refl, refl, pair_set (codes "sysctl") n s.sysctls name t apart)

  attribute_put_framed : (r : Rule) (name : Text) (found : Option Text) (t : Text) (s : Scene) → is_among (written_named (codes "attr") found) n ≡ false → Framed n s (attribute_put r name found t s)
  unfolding node_items
  attribute_put_framed r name None t s h = framed_self n s
  attribute_put_framed r name (Some found) t s h = attrs_framed found t s (first_false _ _ h)

  attribute_framed : (r : Rule) (name t : Text) (s : Scene) → is_among (written_named (codes "attr") (found_attribute name s.state.event)) n ≡ false → Framed n s (attribute_set r name t s)
  unfolding node_items
  attribute_framed r name t s h =
      subst (λ u. Framed n s u) (attribute_is_set r name t s) (by (is_own name s.state.event && nat_lt most_path_bytes (length (sysfs_path s.state.event.device name))))
    where
      by : (b : Bool) → Framed n s (cond b (noted_key r TextTooLong key.Attr (Some name) s) (attribute_put r name (found_attribute name s.state.event) t s))
      by true = framed_self n s
      by false = attribute_put_framed r name (found_attribute name s.state.event) t s h

  parameter_put_framed : (r : Rule) (written : Text) (name : Rendered) (t : Text) (s : Scene) → is_among (written_named (codes "sysctl") (parameter_in name)) n ≡ false → Framed n s (parameter_put r written name t s)
  unfolding node_items
  parameter_put_framed r written (rendered.Text name) t s h = sysctls_framed (parameter_name name) t s (first_false _ _ h)
  parameter_put_framed r written rendered.TooLong t s h = framed_self n s

  -- a name is not that of a text in a state, and the text changes no more than that
  abbrev Apart : Profile → AssignOperator → Target → State → Type 0
  Apart profile o about state = (is_wide_text profile o about ≡ false) × (is_among (named_by_text profile state about) n ≡ false)

  assigned_framed : (profile : Profile) (r : Rule) (e : Escape) (o : AssignOperator) (about : Target) (written t : Text) (s : Scene) → Apart profile o about s.state → Framed n s (assigned profile about (given_by r e o about written) t s)
  assigned_framed Manual r e o target.Owner written t s h = owner_framed h.1 (unless_empty t) s
  assigned_framed Udev r e o target.Owner written t s h = owner_set_framed h.1 r t s
  assigned_framed Manual r e o target.Group written t s h = group_framed h.1 (unless_empty t) s
  assigned_framed Udev r e o target.Group written t s h = group_set_framed h.1 r t s
  assigned_framed Manual r e o target.Mode written t s h = mode_framed h.1 (unless_empty t) s
  assigned_framed Udev r e o target.Mode written t s h = mode_set_framed h.1 r t s
  assigned_framed Manual r e o target.Name written t s h = name_framed h.1 (unless_empty (name_text Manual e t)) s
  assigned_framed Udev r e o target.Name written t s h = name_framed h.1 (Some (name_text Udev e t)) s
  assigned_framed profile r e o (target.Seclabel name) written t s h = let no : true ≡ false = h.0 in cc
  assigned_framed Manual r e Add target.Tag written t s h = tags_framed (one_tag t) s
  assigned_framed Udev r e Add target.Tag written t s h = tag_added_framed r t s
  assigned_framed profile r e o target.Tag written t s h = let no : true ≡ false = h.0 in cc
  assigned_framed Manual r e Add target.Symlink written t s h = links_framed (link_names (link_text e t)) s
  assigned_framed Udev r e Add target.Symlink written t s h =
      noted_framed r (first_refused (words (link_text e t))) s _ (links_framed (plain_links (words (link_text e t))) s)
  assigned_framed profile r e o target.Symlink written t s h = let no : true ≡ false = h.0 in cc
  assigned_framed Manual r e o (target.Env name) written t s h = changed_framed r name (first_false _ _ h.1) o t s
  assigned_framed Udev r e o (target.Env name) written t s h = udev_changed_framed r name (first_false _ _ h.1) e o written t s
  assigned_framed Manual r e o (target.Attr name) written t s h = attrs_framed name t s (first_false _ _ h.1)
  assigned_framed Udev r e o (target.Attr name) written t s h = attribute_framed r name t s h.1
  assigned_framed Manual r e o (target.Sysctl name) written t s h = sysctls_framed name t s (first_false _ _ h.1)
  assigned_framed Udev r e o (target.Sysctl name) written t s h = parameter_put_framed r name (within most_path_bytes (rendered_as_udev name s.state)) t s h.1

  -- ---- a text, whatever becomes of it

  module _ (r : Rule) (e : Escape) (o : AssignOperator) (about : Target) (written : Text) where
    given_framed : (profile : Profile) (t : Text) (s : Scene) → Apart profile o about s.state → Framed n s (text_given profile (given_by r e o about written) t s)
    unfolding node_items
    given_framed profile t s h = by (is_ignored profile about s)
      where
        by : (b : Bool) → Framed n s (cond b (noted r NameIgnored t s) (finally o (final_target about) (assigned profile about (given_by r e o about written) t s)))
        by true = framed_self n s
        by false = settled_too o (final_target about) s _ (assigned_framed profile r e o about written t s h)

    too_long_framed : (profile : Profile) (s t : Scene) → Framed n s t → Framed n s (finally_too_long profile o about t)
    too_long_framed Manual s t h = h
    too_long_framed Udev s t h = settled_too o (final_target about) s t h

    text_framed : (profile : Profile) (text : Rendered) (s : Scene) → Apart profile o about s.state → Framed n s (text_set profile (given_by r e o about written) text s)
    unfolding node_items
    text_framed profile (rendered.Text t) s h = given_framed profile t s h
    text_framed profile rendered.TooLong s h =
        too_long_framed profile s (noted r TextTooLong (word_of_key (key_of_target about) (attribute_of_target about)) s) (framed_self n s)

  emptied_framed : (o : AssignOperator) (about : Target) (s : Scene) → is_wide_text Udev o about ≡ false → emptied o about s ≡ s
  emptied_framed Assign target.Symlink s h = let no : true ≡ false = h in cc
  emptied_framed AssignFinal target.Symlink s h = let no : true ≡ false = h in cc
  emptied_framed o about s h = refl

  step_framed : (profile : Profile) (r : Rule) (o : AssignOperator) (about : Target) (template : Template) (s : Scene) → Apart profile o about s.state
      → Framed n s (text_step profile (given_by r (escape_of r.sets) o about template.written) template s)
  unfolding node_items
  step_framed Manual r o about template s h = text_framed r (escape_of r.sets) o about template.written Manual _ s h
  step_framed Udev r o about template s h = by (lacks_number about s.state.event.device.number)
    where
      by : (b : Bool) → Framed n s (cond b (noted_key r NoDeviceNumber (key_of_target about) (attribute_of_target about) s) (text_rendered Udev (given_by r (escape_of r.sets) o about template.written) template (emptied o about s)))
      by true = framed_self n s
      by false =
          subst (λ t. Framed n s (text_rendered Udev (given_by r (escape_of r.sets) o about template.written) template t)) (sym (emptied_framed o about s h.0))
          (text_framed r (escape_of r.sets) o about template.written Udev _ s h)

  -- ---- commands

  command_framed : (r : Rule) (braces : Option RunType) (template : Template) (text : Text) (found : List Text) (s : Scene) → Framed n s (command_made r braces template text found s)
  unfolding node_items
  command_framed r braces template text [] s = framed_self n s
  command_framed r braces template text (word ∷ more) s = framed_self n s

  made_framed : (r : Rule) (braces : Option RunType) (template : Template) (given : Rendered) (s : Scene) → Framed n s (run_made r braces template given s)
  unfolding node_items
  made_framed r braces template (rendered.Text text) s = command_framed r braces template text (words text) s
  made_framed r braces template rendered.TooLong s = framed_self n s

  run_framed : (profile : Profile) (r : Rule) (o : AssignOperator) (braces : Option RunType) (template : Template) (s : Scene) → Framed n s (run_step profile r o braces template s)
  unfolding node_items
  run_framed Manual r o braces template s = settled_too o (Some final.Run) s (record s { runs = runs_after o s.runs (run_of r braces template s) }) (framed_self n s)
  run_framed Udev r o braces template s =
      let given : Rendered = within most_command_bytes (render template s.state Plain) in
      let before : Scene = record s { made = made_before o s.made } in
      settled_too o (Some final.Run) s (run_made r braces template given before) (made_framed r braces template given before)

  -- ---- an assignment

  by_framed : (profile : Profile) (r : Rule) (o : AssignOperator) (c : Change) (s : Scene) → is_wide profile o c ≡ false → is_among (named_by profile s.state c) n ≡ false → Framed n s (step_by profile r o c s)
  by_framed profile r o (change.Option known) s wide apart = settled_too o _ s (with_option known s) (option_framed apart known s)
  by_framed profile r o (change.Text about template) s wide apart = step_framed profile r o about template s (wide, apart)
  by_framed profile r o (change.Run braces template) s wide apart = run_framed profile r o braces template s

  pub set_framed_too : (r : Rule) (a : Assignment) (s : Scene) → is_wide s.state.event.profile a.operator a.change ≡ false → is_among (named_by s.state.event.profile s.state a.change) n ≡ false → Framed n s (set_step r s a)
  unfolding set_step
  set_framed_too r a s wide apart = by (is_settled (final_key s.state.event.profile a.change) s.finals)
    where
      by : (b : Bool) → Framed n s (cond b s (step_by s.state.event.profile r a.operator a.change s))
      by true = framed_self n s
      by false = by_framed s.state.event.profile r a.operator a.change s wide apart

  -- the names of what an assignment can change are the same in all states of an event
  named_same : (profile : Profile) (o : AssignOperator) (c : Change) (u v : State) → u.event ≡ v.event → is_wide profile o c ≡ false → named_by profile u c ≡ named_by profile v c
  named_same profile o (change.Option known) u v e wide = refl
  named_same profile o (change.Run braces template) u v e wide = refl
  named_same Manual o (change.Text (target.Attr name) template) u v e wide = refl
  named_same Udev o (change.Text (target.Attr name) template) u v e wide = ap (λ (event : EventValue). written_named (codes "attr") (found_attribute name event)) e
  named_same Manual o (change.Text (target.Sysctl name) template) u v e wide = refl
  named_same Udev o (change.Text (target.Sysctl name) template) u v e wide =
      ap (λ (given : Rendered). written_named (codes "sysctl") (parameter_in (within most_path_bytes given))) (rendered_alike name wide u v)
  named_same profile o (change.Text about template) u v e wide = refl

  -- all assignments of a rule, by the names in the state at its end
  pub all_framed : (r : Rule) (end : State) (sets : List Assignment) (s : Scene) → end.event ≡ s.state.event → list_any (λ a. is_wide s.state.event.profile a.operator a.change) sets ≡ false
      → is_among (flat_map (λ a. named_by s.state.event.profile end a.change) sets) n ≡ false → Framed n s (fold (set_step r) s sets)
  all_framed r end [] s event wide apart = framed_self n s
  all_framed r end (a ∷ sets) s event wide apart =
      let narrow = both (is_wide s.state.event.profile a.operator a.change) (list_any (λ b. is_wide s.state.event.profile b.operator b.change) sets) wide in
      let other = among_append (named_by s.state.event.profile end a.change) (flat_map (λ b. named_by s.state.event.profile end b.change) sets) n apart in
      let own = ap (λ names. is_among names n) (sym (named_same s.state.event.profile a.operator a.change end s.state event narrow.0)) ∙ other.0 in
      framed_on n s (set_step r s a) _ (set_framed_too r a s narrow.0 own)
      (all_framed r end sets (set_step r s a) (event ∙ sym (set_stays r a s))
      (ap (λ (event : _). list_any (λ b. is_wide event.profile b.operator b.change) sets) (set_stays r a s) ∙ narrow.1)
      (ap (λ (event : _). is_among (flat_map (λ b. named_by event.profile end b.change) sets) n) (set_stays r a s) ∙ other.1))
    where
      both : (a b : Bool) → (a || b) ≡ false → (a ≡ false) × (b ≡ false)
      both true b h = let no : true ≡ false = h in cc
      both false b h = (refl, h)
