-- The attribute that an assignment writes for udev, by its name.
use Rattle.std.specs.Prelude.{ℕ, zero, suc, ◌-◌, nat_lt, if◌then◌else◌, ◌++◌, length, take, Option, Some, None, option_map}
use Rattle.std.specs.Option.{option_and_then}
use Rattle.text_bytes.specs.Text.{Text}
use Rattle.text_tables.specs.Pairs.{with_value}
use Rattle.rule_types.specs.declared.keys.Key.TheVariants as key
use Rattle.rule_types.specs.Rules.{Rule}
use Rattle.device_core.specs.Values.{EventValue}
use Rattle.eval_rendering.specs.Bounds.{most_path_bytes, sysfs_path}
use Rattle.eval_state.specs.Chains.{device_at}
use Rattle.eval_state.specs.Files.{starred}
use Rattle.eval_state.specs.Named.{NamedValue, named, named_place}
use Rattle.eval_state.specs.Scenes.{noted, noted_key}
use Rattle.eval_state.specs.declared.note_kind.NoteKind.TheVariants.{AttributeNotFound, TextTooLong}
use Rattle.eval_state.specs.declared.scene.Scene.{Scene}

-- a value is assigned to an attribute that was found by its name; one that was not found leaves a note
abbrev pub attribute_put : Rule → Text → Option Text → Text → Scene → Scene
attribute_put r name None t s = noted r AttributeNotFound name s
attribute_put r name (Some found) t s = record s { attrs = with_value s.attrs found t }

-- a value is assigned to an attribute of the event device, unless its path is too long
abbrev pub own_attribute_set : Rule → Text → Text → Scene → Scene
own_attribute_set r name t s =
    if nat_lt most_path_bytes (length (sysfs_path s.state.event.device name)) then noted_key r TextTooLong key.Attr (Some name) s
    else attribute_put r name (starred s.state.event.device name) t s

-- an attribute of a named device, with all that is before it in a name
abbrev pub named_whole : NamedValue → Text → Text → Text
named_whole n name attribute = take (length name - length n.attribute) name ++ attribute

-- the attribute of the device at a place of the chain, as it was found by its name
abbrev pub found_above : EventValue → ℕ → NamedValue → Text → Option Text
found_above event place n name = option_map (named_whole n name) (option_and_then (λ device. starred device n.attribute) (device_at event place))

-- a value is assigned to an attribute of the device at a place of the chain, if there is one: an attribute of a
-- device above the event device is reported with its whole name
abbrev pub attribute_set_at : Option ℕ → NamedValue → Rule → Text → Text → Scene → Scene
attribute_set_at None n r name t s = own_attribute_set r name t s
attribute_set_at (Some zero) n r name t s = attribute_put r name (starred s.state.event.device n.attribute) t s
attribute_set_at (Some (suc above)) n r name t s = attribute_put r name (found_above s.state.event (suc above) n name) t s

-- a value is assigned to an attribute by what its name names
abbrev pub attribute_set_by : Option NamedValue → Rule → Text → Text → Scene → Scene
attribute_set_by None r name t s = own_attribute_set r name t s
attribute_set_by (Some n) r name t s = attribute_set_at (named_place n s.state.event) n r name t s

-- a value is assigned to an attribute, as udev finds it by its name
abbrev pub attribute_set : Rule → Text → Text → Scene → Scene
attribute_set r name t s = attribute_set_by (named name) r name t s
