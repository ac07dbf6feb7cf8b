-- What the builtins of udev do that look at the devices of an event. Each returns the scene after it, and whether it
-- was done.
use Rattle.std.specs.Prelude.{ℕ, ◌+◌, nat_le, Bool, false, List, [], ◌∷◌, ◌++◌, flat_map, length, Option, Some, None, is_some, codes, if◌then◌else◌}
use Rattle.std.specs.List.{sum_by}
use Rattle.text_bytes.specs.Text.{Text}
use Rattle.text_tables.specs.Texts.{same_text}
use Rattle.text_tables.specs.Pairs.{Pair, value_of}
use Rattle.trie_nodes.specs.Query.{query}
use Rattle.builtin_devices.specs.Knowledge.{Known}
use Rattle.rule_types.specs.Builtins.{builtin_name}
use Rattle.rule_types.specs.declared.builtins.Builtin.TheVariants.{InputId, NetId, NetSetupLink, PathId, UsbId}
use Rattle.rule_types.specs.Rules.{Rule}
use Rattle.builtin_devices.specs.Outcomes.{OutcomeValue}
use Rattle.eval_state.specs.Properties.{properties_set}
use Rattle.eval_state.specs.Scenes.{noted, with_env}
use Rattle.eval_state.specs.declared.note_kind.NoteKind.TheVariants.{BuiltinNeeds, TextTooLong}
use Rattle.eval_state.specs.declared.scene.Scene.{Scene}

-- the names of what is needed after the first, each after a comma and a space
abbrev pub further_needs : List Text → Text
further_needs needs = flat_map (λ need. codes ", " ++ need) needs

-- the word of a note on what a builtin needs: its name, a colon, a space and what it needs, one name or more
abbrev pub needs_word : (name first : Text) → (further : List Text) → Text
needs_word name first further = name ++ codes ": " ++ first ++ further_needs further

-- the most that a builtin may set: its names and values, each counted with one byte more, as many bytes as a block may have
abbrev pub most_set : ℕ
most_set = 65536

-- how much a property counts of that
abbrev pub property_size : Pair → ℕ
property_size property = (length property.0 + 1) + (length property.1 + 1)

-- how much properties count together
abbrev pub properties_size : List Pair → ℕ
properties_size properties = sum_by property_size properties

-- a note on all that is needed from the block, if anything is
abbrev pub needs_noted : Rule → (name : Text) → List Text → Scene → Scene
needs_noted r name [] s = s
needs_noted r name (first ∷ further) s = noted r BuiltinNeeds (needs_word name first further) s

-- Properties are set for a builtin's outcome, and what it needs is noted; it was done if it succeeds. If
-- the outcome's own are more than a builtin may set, it sets nothing, which is noted, and it was not done.
abbrev pub outcome_set : Rule → (name : Text) → OutcomeValue → List Pair → Scene → Scene × Bool
outcome_set r name outcome properties s =
    if nat_le (properties_size outcome.properties) most_set then
    (needs_noted r name outcome.needs (with_env (properties_set s.state.env properties) s), outcome.is_done)
    else (noted r TextTooLong name s, false)

-- the same for the outcome's own properties
abbrev pub outcome_taken : Rule → (name : Text) → OutcomeValue → Scene → Scene × Bool
outcome_taken r name outcome s = outcome_set r name outcome outcome.properties s

-- a scene in which usb_id has run
abbrev pub usb_id_ran : Scene × Bool → Scene × Bool
usb_id_ran after = (record after.0 { ran = record after.0.ran { usb_id = Some after.1 } }, after.1)

-- a scene in which path_id has run
abbrev pub path_id_ran : Scene × Bool → Scene × Bool
path_id_ran after = (record after.0 { ran = record after.0.ran { path_id = Some after.1 } }, after.1)

-- usb_id, by whether it has run before: then it does nothing, and was done if it was the first time
abbrev pub usb_id_run : Known → (ran : Option Bool) → Rule → Scene → Scene × Bool
usb_id_run known (Some done) r s = (s, done)
usb_id_run known None r s = usb_id_ran (outcome_taken r (builtin_name UsbId) (known.usb_id s.state.event (is_some (value_of s.state.env (codes "ID_BUS")))) s)

-- path_id, by whether it has run before
abbrev pub path_id_run : Known → (ran : Option Bool) → Rule → Scene → Scene × Bool
path_id_run known (Some done) r s = (s, done)
path_id_run known None r s = path_id_ran (outcome_taken r (builtin_name PathId) (known.path_id s.state.event) s)

-- input_id
abbrev pub input_id_run : Known → Rule → Scene → Scene × Bool
input_id_run known r s = outcome_taken r (builtin_name InputId) (known.input_id s.state.event) s

-- what the hardware database says about a text, if there is one
abbrev pub looked_up : Known → Option Text → List Pair
looked_up known None = []
looked_up known (Some text) = query known.entries text

-- whether a property is the name by an address
abbrev pub is_address_name : Pair → Bool
is_address_name property = same_text property.0 (codes "ID_NET_NAME_MAC")

-- properties, and right after the name by an address what was found for the address
abbrev pub with_maker : (found : List Pair) → List Pair → List Pair
with_maker found [] = []
with_maker found (property ∷ properties) =
    if is_address_name property then property ∷ found ++ properties
    else property ∷ with_maker found properties

-- net_id; right after the name by the device's address it sets what the hardware database says about the address
abbrev pub net_id_run : Known → Rule → Scene → Scene × Bool
net_id_run known r s =
    let names = known.net_id s.state.event s.state.env in
    outcome_set r (builtin_name NetId) names (with_maker (looked_up known (known.net_lookup s.state.event s.state.env)) names.properties) s

-- net_setup_link
abbrev pub net_setup_link_run : Known → Rule → Scene → Scene × Bool
net_setup_link_run known r s = outcome_taken r (builtin_name NetSetupLink) (known.net_setup_link s.state.event s.state.env) s
