-- What a scene weighs after an assignment.
use Rattle.std.proofs.Common.{◌≡◌, ℕ, zero, suc, ◌+◌, ◌≤◌, Bool, true, false, not, nat_lt, ltb-false, refl, List, [], ◌∷◌, ◌++◌, length, slice_get, Option, Some, None, ◌==◌, if◌then◌else◌, ap, arith}
use Rattle.std.proofs.lemmas.List.Sums.{sum_by-cons, sum_by_push}
use Rattle.std.specs.List.{slice_split}
use Rattle.text_bytes.specs.Names.{space}
use Rattle.text_bytes.specs.declared.profile.Profile.{Profile}
use Rattle.text_bytes.specs.declared.profile.Profile.TheVariants.{Manual, Udev}
use Rattle.text_bytes.specs.Texts.{is_empty}
use Rattle.text_bytes.specs.Text.{Text}
use Rattle.text_tables.specs.Texts.{without_text}
use Rattle.text_tables.specs.Pairs.{Pair, value_of, with_value}
use Rattle.rule_types.specs.Written.{attribute_of_target}
use Rattle.rule_types.specs.declared.keys.Key.TheVariants as key
use Rattle.rule_types.specs.declared.roles.AssignOperator.{AssignOperator}
use Rattle.rule_types.specs.declared.roles.AssignOperator.TheVariants.{Assign, Add, Remove, AssignFinal}
use Rattle.rule_types.specs.declared.roles.Target.{Target}
use Rattle.rule_types.specs.declared.roles.Target.TheVariants as target
use Rattle.rule_types.specs.Rules.{Rule}
use Rattle.rule_types.specs.Topics.{mode_of}
use Rattle.device_core.specs.Values.{DeviceValue, EventValue}
use Rattle.eval_laws.specs.DeviceWeights.{device_weight, devices_weight, event_weight, given_weight, pair_weight, pairs_weight, text_weight, texts_weight}
use Rattle.eval_state.specs.Texts.{or_empty}
use Rattle.eval_state.specs.Notes.{word_of_key}
use Rattle.eval_state.specs.declared.note_kind.NoteKind.{NoteKind}
use Rattle.eval_state.specs.Named.{NamedValue, named, named_place}
use Rattle.eval_state.specs.declared.note_kind.NoteKind.TheVariants.{AttributeNotFound, LinkIgnored, ModeIgnored, NoValue, TagIgnored, TextTooLong}
use Rattle.eval_state.specs.Scenes.{noted, noted_key, with_env}
use Rattle.eval_rendering.specs.Bounds.{most_path_bytes, most_value_bytes, sysfs_path, within}
use Rattle.eval_rendering.specs.Rendering.{rendered_as_udev}
use Rattle.eval_rendering.specs.declared.rendered.Mode.TheVariants.{Plain}
use Rattle.eval_rendering.specs.declared.rendered.Rendered.{Rendered}
use Rattle.eval_rendering.specs.declared.rendered.Rendered.TheVariants as rendered
use Rattle.rule_tokens.specs.TemplateReading.{left_of}
use Rattle.eval_state.specs.declared.scene.Scene.{Scene}
use Rattle.eval_assignments.specs.Assigning.{assigned, group_set, labels_before, link_text, or_written, owner_set, unless_empty}
use Rattle.eval_state.specs.Chains.{device_at}
use Rattle.eval_state.specs.Files.{starred}
use Rattle.eval_assignments.specs.Attributes.{attribute_put, attribute_set, attribute_set_at, attribute_set_by, found_above, own_attribute_set}
use Rattle.eval_assignments.specs.Inner.{given_by}
use Rattle.eval_assignments.specs.Links.{first_refused, link_noted, links_changed, plain_links, words}
use Rattle.eval_assignments.specs.Lists.{changed, link_names, one_tag}
use Rattle.eval_assignments.specs.Modes.{mode_read, mode_set}
use Rattle.eval_assignments.specs.Names.{name_text}
use Rattle.eval_assignments.specs.Parameters.{parameter_name, parameter_put, parameter_set}
use Rattle.eval_state.specs.Properties.{property_set}
use Rattle.eval_assignments.specs.Properties.{appended, env_text, extended, property_added, property_changed, property_extended, property_joined, property_put, udev_property_changed}
use Rattle.eval_assignments.specs.Tags.{is_tag, tag_added, tag_changed, with_tag, without_tags}
use Rattle.eval_assignments.specs.declared.escapes.Escape.{Escape}
use Rattle.eval_laws.specs.Allowances.{part_allowance, text_allowance}
use Rattle.eval_laws.specs.Inner.{Within, scene_weight}
use Rattle.eval_laws.proofs.Sums.{filter_light, fold_light, split_light}
use Rattle.eval_laws.proofs.Tables.{with_text_light, with_texts_light, with_value_light, without_name_light, without_text_light}
use Rattle.eval_laws.proofs.Rendered.{IsBounded, IsShort, bounded_short, rendered_short, within_short}
use Rattle.eval_laws.proofs.Scenes.{more, note_within}
use Rattle.eval_laws.proofs.Escaped.{env_same, link_same, name_same}
use Rattle.eval_laws.proofs.Written.{IsNoLonger, attrs_of, named_shorter, parameter_light, plain_light, starred_light, whole_light}

given_light : (t : Text) → given_weight (unless_empty t) ≤ length t + 1
given_light [] = omega arith
given_light (b ∷ t) = omega arith

tag_light : (t : Text) → texts_weight (one_tag t) ≤ length t + 1
tag_light [] = omega arith
tag_light (b ∷ t) = let a = sum_by-cons text_weight (b ∷ t) [] in omega (arith, a)

names_light : (t : Text) → texts_weight (link_names t) ≤ length t + 1
names_light t =
    let a = filter_light text_weight (λ t. not (is_empty t)) (slice_split (λ b. b == space) t) in
    let b = split_light (λ b. b == space) t in
    omega (arith, a, b)

changed_light : (o : AssignOperator) (more texts : List Text) → texts_weight (changed o more texts) ≤ texts_weight texts + texts_weight more
changed_light Assign more texts = let a = with_texts_light [] more in omega (arith, a)
changed_light AssignFinal more texts = let a = with_texts_light [] more in omega (arith, a)
changed_light Add more texts = with_texts_light texts more
changed_light Remove more texts = fold_light text_weight text_weight without_text without_text_light texts more

labels_light : (o : AssignOperator) (labels : List Pair) → pairs_weight (labels_before o labels) ≤ pairs_weight labels
labels_light Assign labels = omega arith
labels_light AssignFinal labels = omega arith
labels_light Add labels = omega arith
labels_light Remove labels = omega arith

property_light : (name t : Text) (env : List Pair) → pairs_weight (property_set name t env) ≤ pairs_weight env + pair_weight (name, t)
property_light name [] env = let a = without_name_light env name in omega (arith, a)
property_light name (b ∷ t) env = with_value_light env name (b ∷ t)

appended_short : (value t : Text) → length t ≤ 16384 → IsBounded (appended value t)
appended_short [] t short = short
appended_short (b ∷ value) t short = bounded_short ((b ∷ value) ++ space ∷ t)

or_written_light : (written t : Text) → length (or_written written t) ≤ length written + length t
or_written_light written [] = omega arith
or_written_light written (b ∷ t) = omega arith

-- a value of udev's that is not too long
extended_short : (value : Option Text) (t : Text) → length t ≤ 16384 → IsBounded (extended value t)
extended_short None t short = by (nat_lt most_value_bytes (length t))
  where
    by : (b : Bool) → IsBounded (if◌then◌else◌ {A = Option Text} b None (Some t))
    by true = tt
    by false = short
extended_short (Some value) t short = by (nat_lt most_value_bytes (length (value ++ space ∷ t))) refl
  where
    by : (b : Bool) → nat_lt most_value_bytes (length (value ++ space ∷ t)) ≡ b → IsBounded (if◌then◌else◌ {A = Option Text} b None (Some (value ++ space ∷ t)))
    by true e = tt
    by false e = let a = ltb-false most_value_bytes (length (value ++ space ∷ t)) e in omega (arith, a)

-- the attributes of the event device are in the event
own_light : (event : EventValue) → pairs_weight event.device.attrs ≤ event_weight event
unfolding event_weight device_weight
own_light event = let a = sum_by-cons device_weight event.device event.parents in omega (arith, a)

-- and so are those of the device at any place
attrs_light : (d : DeviceValue) → pairs_weight d.attrs ≤ device_weight d
unfolding device_weight
attrs_light d = omega arith

among_light : (devices : List DeviceValue) (place : ℕ) → pairs_weight (attrs_of (slice_get devices place)) ≤ devices_weight devices
among_light [] zero = omega arith
among_light [] (suc place) = omega arith
among_light (d ∷ devices) zero =
    let a = sum_by-cons device_weight d devices in
    let b = attrs_light d in
    omega (arith, a, b)
among_light (d ∷ devices) (suc place) =
    let a = sum_by-cons device_weight d devices in
    let b = among_light devices place in
    omega (arith, a, b)

chain_light : (event : EventValue) (place : ℕ) → pairs_weight (attrs_of (device_at event place)) ≤ event_weight event
unfolding event_weight
chain_light event place = let a = among_light (event.device ∷ event.parents) place in omega (arith, a)

module _ (event : EventValue) (n : ℕ) (r : Rule) (s : Scene) (h : Within event n s) where
  env_within : (env : List Pair) (k : ℕ) → pairs_weight env ≤ pairs_weight s.state.env + k → Within event (n + k) (with_env env s)
  unfolding scene_weight
  env_within env k light = let a = h.light in record { same = h.same; light = omega (arith, a, light) }

  joined_within : (name : Text) (value : Option Text) → IsBounded value → Within event (n + part_allowance r (Some name)) (property_joined r name value s)
  joined_within name None short = note_within event n (part_allowance r (Some name)) r s h (omega arith) TextTooLong (word_of_key key.Env (Some name))
  joined_within name (Some value) short =
      let a = with_value_light s.state.env name value in
      env_within (with_value s.state.env name value) (part_allowance r (Some name)) (omega (arith, a, short))

  added_within : (name t : Text) → length t ≤ 16384 → Within event (n + part_allowance r (Some name)) (property_added r name t s)
  added_within name [] short = more event n (n + part_allowance r (Some name)) s (omega arith) h
  added_within name (b ∷ t) short =
      joined_within name (appended (or_empty (value_of s.state.env name)) (b ∷ t)) (appended_short (or_empty (value_of s.state.env name)) (b ∷ t) short)

  put_within : (name : Text) (value : Option Text) → IsBounded value → Within event (n + part_allowance r (Some name)) (property_put r name value s)
  put_within name None short = note_within event n (part_allowance r (Some name)) r s h (omega arith) TextTooLong (word_of_key key.Env (Some name))
  put_within name (Some value) short =
      let a = property_light name value s.state.env in
      env_within (property_set name value s.state.env) (part_allowance r (Some name)) (omega (arith, a, short))

  extended_within : (name written t : Text) → length t ≤ 16384 → Within event (n + part_allowance r (Some name)) (property_extended r name written t s)
  extended_within name [] t short = more event n (n + part_allowance r (Some name)) s (omega arith) h
  extended_within name (b ∷ written) t short = put_within name (extended (value_of s.state.env name) t) (extended_short (value_of s.state.env name) t short)

  set_within : (name t : Text) → length t ≤ 16384 → Within event (n + part_allowance r (Some name)) (with_env (property_set name t s.state.env) s)
  set_within name t short =
      let a = property_light name t s.state.env in
      env_within (property_set name t s.state.env) (part_allowance r (Some name)) (omega (arith, a, short))

  property_within : (o : AssignOperator) (name t : Text) → length t ≤ 16384 → Within event (n + part_allowance r (Some name)) (property_changed r o name t s)
  property_within Add name t short = added_within name t short
  property_within Assign name t short = set_within name t short
  property_within Remove name t short = set_within name t short
  property_within AssignFinal name t short = set_within name t short

  udev_property_within : (e : Escape) (o : AssignOperator) (name written t : Text) → length t ≤ 16384 → Within event (n + part_allowance r (Some name)) (udev_property_changed r e o name written t s)
  udev_property_within e Add name written t short = let a = env_same e t in extended_within name written (env_text e t) (omega (arith, a, short))
  udev_property_within e Assign name written t short = let a = env_same e t in set_within name (env_text e t) (omega (arith, a, short))
  udev_property_within e Remove name written t short = let a = env_same e t in set_within name (env_text e t) (omega (arith, a, short))
  udev_property_within e AssignFinal name written t short = let a = env_same e t in set_within name (env_text e t) (omega (arith, a, short))

  -- ---- what udev makes of the others

  module _ (k : ℕ) (room : length r.file + 16665 ≤ k) where
    notes : (kind : NoteKind) (text : Text) → Within event (n + k) (noted r kind text s)
    notes kind text = note_within event n k r s h (omega (arith, room)) kind text

    owner_within : (t : Text) → length t ≤ 16384 → Within event (n + k) (owner_set r t s)
    unfolding scene_weight
    owner_within [] short = notes NoValue (word_of_key key.Owner None)
    owner_within (b ∷ t) short = let a = h.light in record { same = h.same; light = omega (arith, a, room, short) }

    group_within : (t : Text) → length t ≤ 16384 → Within event (n + k) (group_set r t s)
    unfolding scene_weight
    group_within [] short = notes NoValue (word_of_key key.Group None)
    group_within (b ∷ t) short = let a = h.light in record { same = h.same; light = omega (arith, a, room, short) }

    read_within : (t : Text) (mode : Option ℕ) → Within event (n + k) (mode_read r t mode s)
    unfolding scene_weight
    read_within t None = notes ModeIgnored t
    read_within t (Some mode) = let a = h.light in record { same = h.same; light = omega (arith, a, room) }

    mode_within : (t : Text) → Within event (n + k) (mode_set r t s)
    mode_within [] = notes NoValue (word_of_key key.Mode None)
    mode_within (b ∷ t) = read_within (b ∷ t) (mode_of (b ∷ t))

    with_tag_within : (t : Text) → length t ≤ 16384 → Within event (n + k) (with_tag t s)
    unfolding scene_weight
    with_tag_within t short = let a = h.light in let b = with_text_light s.state.tags t in record { same = h.same; light = omega (arith, a, b, room, short) }

    tag_within : (t : Text) → length t ≤ 16384 → Within event (n + k) (tag_added r t s)
    tag_within [] short = notes NoValue (word_of_key key.Tag None)
    tag_within (b ∷ t) short = by (is_tag (b ∷ t))
      where
        by : (is : Bool) → Within event (n + k) (if is then with_tag (b ∷ t) s else noted r TagIgnored (b ∷ t) s)
        by true = with_tag_within (b ∷ t) short
        by false = notes TagIgnored (b ∷ t)

    found_within : (name : Text) (found : Option Text) (t : Text) → (m : ℕ) → IsNoLonger m found → m + length t + 2 ≤ k → Within event (n + k) (attribute_put r name found t s)
    unfolding scene_weight
    found_within name None t m light fits = notes AttributeNotFound name
    found_within name (Some found) t m light fits =
        let a = h.light in
        let b = with_value_light s.attrs found t in
        record { same = h.same; light = omega (arith, a, b, light, fits) }

    parameter_within : (name : Text) (text : Rendered) (t : Text) → IsShort text → length t + 16387 ≤ k → Within event (n + k) (parameter_put r name text t s)
    unfolding scene_weight
    parameter_within name rendered.TooLong t short fits = notes TextTooLong (word_of_key key.Sysctl (Some name))
    parameter_within name (rendered.Text text) t short fits =
        let a = h.light in
        let b = with_value_light s.sysctls (parameter_name text) t in
        let c = parameter_light text in
        record { same = h.same; light = omega (arith, a, b, c, short, fits) }

  emptied_within : Within event n (without_tags s)
  unfolding scene_weight
  emptied_within = let a = h.light in record { same = h.same; light = omega (arith, a) }

  gone_within : (k : ℕ) (gone : List Text) → Within event (n + k) (record s { gone = gone })
  unfolding scene_weight
  gone_within k gone = let a = h.light in record { same = h.same; light = omega (arith, a) }

  linked_within : (o : AssignOperator) (t : Text) → Within event (n + (length t + 1)) (record s { state = record s.state { links = changed o (plain_links (words t)) s.state.links } })
  unfolding scene_weight
  linked_within o t =
      let a = h.light in
      let b = changed_light o (plain_links (words t)) s.state.links in
      let c = plain_light t in
      record { same = h.same; light = omega (arith, a, b, c) }

-- a note about a link that is refused
link_within : (event : EventValue) (n k : ℕ) (r : Rule) (s : Scene) → Within event n s → length r.file + 280 ≤ k → (path : Option Text) → Within event (n + k) (link_noted r path s)
link_within event n k r s h room None = more event n (n + k) s (omega arith) h
link_within event n k r s h room (Some path) = note_within event n k r s h room LinkIgnored path

module _ (event : EventValue) (n : ℕ) (r : Rule) (s : Scene) (h : Within event n s) (len : ℕ) (fits : event_weight event ≤ len) where
  module _ (k : ℕ) (room : length r.file + 16665 ≤ k) where
    tags_within : (o : AssignOperator) (t : Text) → length t ≤ 16384 → Within event (n + k) (tag_changed r o t s)
    tags_within Remove t short = gone_within event n r s h k _
    tags_within Add t short = tag_within event n r s h k room t short
    tags_within Assign t short = tag_within event n r (without_tags s) (emptied_within event n r s h) k room t short
    tags_within AssignFinal t short = tag_within event n r (without_tags s) (emptied_within event n r s h) k room t short

    links_within : (o : AssignOperator) (t : Text) → length t ≤ 16384 → Within event (n + k) (links_changed r o t s)
    links_within o t short =
        more event (n + (length t + 1) + (length r.file + 280)) (n + k) _ (omega (arith, room, short))
        (link_within event (n + (length t + 1)) (length r.file + 280) r _ (linked_within event n r s h o t) (omega arith) (first_refused (words t)))

  module _ (name t : Text) (short : length t ≤ 16384) where
    abbrev most : ℕ
    most = part_allowance r (Some name) + len

    starred_within : (own : Text) → length own ≤ length name → Within event (n + most) (attribute_put r name (starred s.state.event.device own) t s)
    starred_within own within_name =
        let a = own_light event in
        let b = ap (λ (e : EventValue). pairs_weight e.device.attrs) h.same in
        found_within event n r s h most (omega arith) name (starred s.state.event.device own) t (length own + pairs_weight s.state.event.device.attrs) (starred_light s.state.event.device own)
        (omega (arith, a, b, short, within_name, fits))

    own_within : Within event (n + most) (own_attribute_set r name t s)
    own_within = by (nat_lt most_path_bytes (length (sysfs_path s.state.event.device name)))
      where
        by : (b : Bool) → Within event (n + most) (if b then noted_key r TextTooLong key.Attr (Some name) s else attribute_put r name (starred s.state.event.device name) t s)
        by true = notes event n r s h most (omega arith) TextTooLong (word_of_key key.Attr (Some name))
        by false = starred_within name (omega arith)

    at_within : (place : Option ℕ) (is : NamedValue) → length is.attribute ≤ length name → Within event (n + most) (attribute_set_at place is r name t s)
    at_within None is shorter = own_within
    at_within (Some zero) is shorter = starred_within is.attribute shorter
    at_within (Some (suc above)) is shorter =
        let a = chain_light event (suc above) in
        let b = ap (λ (e : EventValue). pairs_weight (attrs_of (device_at e (suc above)))) h.same in
        found_within event n r s h most (omega arith) name (found_above s.state.event (suc above) is name) t (length name + pairs_weight (attrs_of (device_at s.state.event (suc above))))
        (whole_light is name shorter (device_at s.state.event (suc above)))
        (omega (arith, a, b, short, fits))

    by_within : (is : Option NamedValue) → named name ≡ is → Within event (n + most) (attribute_set_by is r name t s)
    by_within None e = own_within
    by_within (Some is) e = at_within (named_place is s.state.event) is (named_shorter name is e)

    attribute_within : Within event (n + most) (attribute_set r name t s)
    attribute_within = by_within (named name) refl

    named_within : Within event (n + part_allowance r (Some name)) (parameter_set r name t s)
    named_within =
        parameter_within event n r s h (part_allowance r (Some name)) (omega arith) name (within most_path_bytes (rendered_as_udev name s.state)) t
        (within_short most_path_bytes (rendered_as_udev name s.state) (rendered_short (record { written = name; pieces = left_of name }) s.state Plain))
        (omega (arith, short))

  none_added : (k : ℕ) (t : Scene) → Within event (n + k) t → Within event (n + (k + 0)) t
  none_added k t inside = more event (n + k) (n + (k + 0)) t (omega arith) inside

  -- a text of a key
  pub assigned_within : (profile : Profile) (e : Escape) (o : AssignOperator) (about : Target) (written t : Text) → length t ≤ 16384
      → Within event (n + (part_allowance r (attribute_of_target about) + text_allowance profile len about written)) (assigned profile about (given_by r e o about written) t s)
  unfolding scene_weight
  assigned_within Manual e o target.Owner written t short = let a = h.light in let b = given_light t in record { same = h.same; light = omega (arith, a, b, short) }
  assigned_within Manual e o target.Group written t short = let a = h.light in let b = given_light t in record { same = h.same; light = omega (arith, a, b, short) }
  assigned_within Manual e o target.Mode written t short = let a = h.light in let b = given_light t in record { same = h.same; light = omega (arith, a, b, short) }
  assigned_within Manual e o target.Tag written t short =
      let a = h.light in
      let b = changed_light o (one_tag t) s.state.tags in
      let c = tag_light t in
      record { same = h.same; light = omega (arith, a, b, c, short) }
  assigned_within Manual e o (target.Seclabel name) written t short =
      let a = h.light in
      let b = with_value_light (labels_before o s.labels) name t in
      let c = labels_light o s.labels in
      record { same = h.same; light = omega (arith, a, b, c, short) }
  assigned_within Manual e o (target.Env name) written t short = none_added (part_allowance r (Some name)) _ (property_within event n r s h o name t short)
  assigned_within Manual e o target.Name written t short =
      let a = h.light in
      let b = given_light (name_text Manual e t) in
      let c = name_same Manual e t in
      record { same = h.same; light = omega (arith, a, b, c, short) }
  assigned_within Manual e o target.Symlink written t short =
      let a = h.light in
      let b = changed_light o (link_names (link_text e t)) s.state.links in
      let c = names_light (link_text e t) in
      let d = link_same e t in
      record { same = h.same; light = omega (arith, a, b, c, d, short) }
  assigned_within Manual e o (target.Attr name) written t short =
      let a = h.light in
      let b = with_value_light s.attrs name t in
      record { same = h.same; light = omega (arith, a, b, short) }
  assigned_within Manual e o (target.Sysctl name) written t short =
      let a = h.light in
      let b = with_value_light s.sysctls name t in
      record { same = h.same; light = omega (arith, a, b, short) }
  assigned_within Udev e o target.Owner written t short = none_added (part_allowance r None) _ (owner_within event n r s h (part_allowance r None) (omega arith) t short)
  assigned_within Udev e o target.Group written t short = none_added (part_allowance r None) _ (group_within event n r s h (part_allowance r None) (omega arith) t short)
  assigned_within Udev e o target.Mode written t short = none_added (part_allowance r None) _ (mode_within event n r s h (part_allowance r None) (omega arith) t)
  assigned_within Udev e o target.Tag written t short = none_added (part_allowance r None) _ (tags_within (part_allowance r None) (omega arith) o t short)
  assigned_within Udev e o (target.Seclabel name) written t short =
      let a = h.light in
      let b = sum_by_push pair_weight (labels_before o s.labels) (name, or_written written t) in
      let c = labels_light o s.labels in
      let d = or_written_light written t in
      record { same = h.same; light = omega (arith, a, b, c, d, short) }
  assigned_within Udev e o (target.Env name) written t short = none_added (part_allowance r (Some name)) _ (udev_property_within event n r s h e o name written t short)
  assigned_within Udev e o target.Name written t short =
      let a = h.light in
      let b = name_same Udev e t in
      record { same = h.same; light = omega (arith, a, b, short) }
  assigned_within Udev e o target.Symlink written t short = let a = link_same e t in none_added (part_allowance r None) _ (links_within (part_allowance r None) (omega arith) o (link_text e t) (omega (arith, a, short)))
  assigned_within Udev e o (target.Attr name) written t short = attribute_within name t short
  assigned_within Udev e o (target.Sysctl name) written t short = none_added (part_allowance r (Some name)) _ (named_within name t short)
