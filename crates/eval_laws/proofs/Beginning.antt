-- The properties that an event begins with.
use Rattle.std.proofs.Common.{◌≡◌, ◌||◌, Bool, true, false, cond, List, [], ◌∷◌, ◌++◌, Option, Some, None, option_map, codes, refl, ap, ◌∙◌, true≢false}
use Rattle.std.proofs.lemmas.List.Sums.{fold-append}
use Rattle.std.specs.Cmp.Lexicographic.{bytes_decides}
use Rattle.text_bytes.specs.Text.{Text}
use Rattle.text_tables.specs.Texts.{same_text}
use Rattle.text_tables.specs.Pairs.{Pair, named, value_of, with_value, with_values}
use Rattle.text_tables.proofs.Found.{value_set}
use Rattle.device_core.specs.Values.{EventValue, NumberValue}
use Rattle.eval_state.specs.Scenes.{start}
use Rattle.eval_state.specs.Properties.{given_properties}
use Rattle.eval_state.specs.Start.{node_path, pair_if, reported_by, start_env}

own : (name : Text) → same_text name name ≡ true
own name = (bytes_decides name name).1 refl

-- one set of properties after another
in_turn : (held more last : List Pair) → with_values held (more ++ last) ≡ with_values (with_values held more) last
in_turn held more last = fold-append (λ (now : List Pair) (pair : Pair). with_value now pair.0 pair.1) held more last

-- another name leaves a value
past_one : (held : List Pair) (other value name : Text) → same_text name other ≡ false → value_of (with_value held other value) name ≡ value_of held name
past_one held other value name e = value_set held other value name ∙ ap (λ b. cond b (Some value) (value_of held name)) e

past : (held more : List Pair) (name : Text) → named more name ≡ false → value_of (with_values held more) name ≡ value_of held name
past held [] name e = refl
past held (pair ∷ more) name e = by (past (with_value held pair.0 pair.1) more name) (same_text name pair.0) refl e
  where
    by : (named more name ≡ false → value_of (with_values (with_value held pair.0 pair.1) more) name ≡ value_of (with_value held pair.0 pair.1) name)
        → (b : Bool) → same_text name pair.0 ≡ b → (b || named more name) ≡ false → value_of (with_values (with_value held pair.0 pair.1) more) name ≡ value_of held name
    by rest true same e = absurd (true≢false e)
    by rest false other e = rest e ∙ past_one held pair.0 pair.1 name other

set_there : (held : List Pair) (name value : Text) → value_of (with_value held name value) name ≡ Some value
set_there held name value = value_set held name value name ∙ ap (λ b. cond b (Some value) (value_of held name)) (own name)

-- a property that may have a value
past_maybe : (held : List Pair) (other : Text) (value : Option Text) (name : Text) → same_text name other ≡ false → value_of (with_values held (pair_if other value)) name ≡ value_of held name
past_maybe held other None name e = refl
past_maybe held other (Some value) name e = past_one held other value name e

maybe_there : (held : List Pair) (name : Text) (given : Option Text) (value : Text) → given ≡ Some value → value_of (with_values held (pair_if name given)) name ≡ Some value
maybe_there held name given value e = ap (λ (o : Option Text). value_of (with_values held (pair_if name o)) name) e ∙ set_there held name value

module _ (event : EventValue) where
  -- the properties that the device has by the profile
  abbrev held : List Pair
  held = given_properties event.profile event.device.env

  abbrev subsystem : Option Text
  subsystem = event.device.subsystem

  abbrev node : Option Text
  node = option_map node_path event.device.node

  abbrev major : Option Text
  major = option_map (λ (n : NumberValue). n.major) event.device.number

  abbrev minor : Option Text
  minor = option_map (λ (n : NumberValue). n.minor) event.device.number

  -- the properties of the device with the action and the path, and with one more after another
  start_with : List Pair
  start_with = with_value (with_value (with_values [] held) (codes "ACTION") event.action) (codes "DEVPATH") event.device.path

  with_subsystem : List Pair
  with_subsystem = with_values start_with (pair_if (codes "SUBSYSTEM") subsystem)

  with_node : List Pair
  with_node = with_values with_subsystem (pair_if (codes "DEVNAME") node)

  with_major : List Pair
  with_major = with_values with_node (pair_if (codes "MAJOR") major)

  whole : start_env event ≡ with_values with_major (pair_if (codes "MINOR") minor)
  unfolding start_env with_major with_node with_subsystem start_with
  whole =
      in_turn start_with (pair_if (codes "SUBSYSTEM") subsystem ++ pair_if (codes "DEVNAME") node ++ pair_if (codes "MAJOR") major) (pair_if (codes "MINOR") minor)
      ∙ ap (λ (env : List Pair). with_values env (pair_if (codes "MINOR") minor))
      (in_turn start_with (pair_if (codes "SUBSYSTEM") subsystem ++ pair_if (codes "DEVNAME") node) (pair_if (codes "MAJOR") major)
      ∙ ap (λ (env : List Pair). with_values env (pair_if (codes "MAJOR") major)) (in_turn start_with (pair_if (codes "SUBSYSTEM") subsystem) (pair_if (codes "DEVNAME") node)))

  at_major : (name : Text) → same_text name (codes "MINOR") ≡ false → value_of (start_env event) name ≡ value_of with_major name
  at_major name e = ap (λ env. value_of env name) whole ∙ past_maybe with_major (codes "MINOR") minor name e

  at_node : (name : Text) → same_text name (codes "MINOR") ≡ false → same_text name (codes "MAJOR") ≡ false → value_of (start_env event) name ≡ value_of with_node name
  unfolding with_major
  at_node name e f = at_major name e ∙ past_maybe with_node (codes "MAJOR") major name f

  at_subsystem : (name : Text) → same_text name (codes "MINOR") ≡ false → same_text name (codes "MAJOR") ≡ false → same_text name (codes "DEVNAME") ≡ false
      → value_of (start_env event) name ≡ value_of with_subsystem name
  unfolding with_node
  at_subsystem name e f g = at_node name e f ∙ past_maybe with_subsystem (codes "DEVNAME") node name g

  at_first : (name : Text) → same_text name (codes "MINOR") ≡ false → same_text name (codes "MAJOR") ≡ false → same_text name (codes "DEVNAME") ≡ false → same_text name (codes "SUBSYSTEM") ≡ false
      → value_of (start_env event) name ≡ value_of start_with name
  unfolding with_subsystem
  at_first name e f g h = at_subsystem name e f g ∙ past_maybe start_with (codes "SUBSYSTEM") subsystem name h

  pub action_is : value_of (start event).state.env (codes "ACTION") ≡ Some event.action
  unfolding start_with
  action_is =
      at_first (codes "ACTION") refl refl refl refl
      ∙ past_one (with_value (with_values [] held) (codes "ACTION") event.action) (codes "DEVPATH") event.device.path (codes "ACTION") refl
      ∙ set_there (with_values [] held) (codes "ACTION") event.action

  pub path_is : value_of (start event).state.env (codes "DEVPATH") ≡ Some event.device.path
  unfolding start_with
  path_is =
      at_first (codes "DEVPATH") refl refl refl refl
      ∙ set_there (with_value (with_values [] held) (codes "ACTION") event.action) (codes "DEVPATH") event.device.path

  pub subsystem_is : (value : Text) → event.device.subsystem ≡ Some value → value_of (start event).state.env (codes "SUBSYSTEM") ≡ Some value
  unfolding with_subsystem
  subsystem_is value e = at_subsystem (codes "SUBSYSTEM") refl refl refl ∙ maybe_there start_with (codes "SUBSYSTEM") subsystem value e

  pub node_is : (value : Text) → event.device.node ≡ Some value → value_of (start event).state.env (codes "DEVNAME") ≡ Some (codes "/dev/" ++ value)
  unfolding with_node
  node_is value e = at_node (codes "DEVNAME") refl refl ∙ maybe_there with_subsystem (codes "DEVNAME") node (node_path value) (ap (option_map node_path) e)

  pub number_is : (number : NumberValue) → event.device.number ≡ Some number
      → (value_of (start event).state.env (codes "MAJOR") ≡ Some number.major) × (value_of (start event).state.env (codes "MINOR") ≡ Some number.minor)
  unfolding with_major
  number_is number e = (
    at_major (codes "MAJOR") refl ∙ maybe_there with_node (codes "MAJOR") major number.major (ap (option_map (λ (n : NumberValue). n.major)) e),
    ap (λ env. value_of env (codes "MINOR")) whole ∙ maybe_there with_major (codes "MINOR") minor number.minor (ap (option_map (λ (n : NumberValue). n.minor)) e),
  )

  pub property_is : (before following : List Pair) (name value : Text) → held ≡ before ++ (name, value) ∷ following → named following name ≡ false
      → named (reported_by event) name ≡ false → value_of (start event).state.env name ≡ Some value
  unfolding start_env
  property_is before following name value split last other =
      past (with_values [] held) (reported_by event) name other
      ∙ ap (λ (env : List Pair). value_of (with_values [] env) name) split
      ∙ ap (λ (env : List Pair). value_of env name) (in_turn [] before ((name, value) ∷ following))
      ∙ past (with_value (with_values [] before) name value) following name last
      ∙ set_there (with_values [] before) name value
