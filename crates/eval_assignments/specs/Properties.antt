-- Properties, as ENV changes them.
use Rattle.std.specs.Prelude.{ℕ, ◌==◌, if◌then◌else◌, [], ◌∷◌, ◌++◌, map, Option, Some, None}
use Rattle.text_bytes.specs.Names.{slash, space, underscore}
use Rattle.text_bytes.specs.Texts.{is_empty}
use Rattle.text_bytes.specs.Text.{Text}
use Rattle.text_tables.specs.Pairs.{value_of, with_value}
use Rattle.rule_types.specs.declared.keys.Key.TheVariants as key
use Rattle.rule_types.specs.declared.roles.AssignOperator.{AssignOperator}
use Rattle.rule_types.specs.declared.roles.AssignOperator.TheVariants.{Add}
use Rattle.rule_types.specs.Rules.{Rule}
use Rattle.eval_state.specs.Texts.{or_empty}
use Rattle.eval_rendering.specs.Bounds.{bounded, short}
use Rattle.text_bytes.specs.Safe.{link_marks, safe}
use Rattle.eval_state.specs.Notes.{word_of_key}
use Rattle.eval_state.specs.Properties.{property_set}
use Rattle.eval_state.specs.Scenes.{noted, with_env}
use Rattle.eval_state.specs.declared.note_kind.NoteKind.TheVariants.{TextTooLong}
use Rattle.eval_state.specs.declared.scene.Scene.{Scene}
use Rattle.eval_assignments.specs.Escapes.{with_underscores}
use Rattle.eval_assignments.specs.declared.escapes.Escape.{Escape}
use Rattle.eval_assignments.specs.declared.escapes.Escape.TheVariants.{Replace}

-- a text after a value, with a space between them, unless that is too long; the text alone if the value is empty
abbrev pub appended : Text → Text → Option Text
appended [] t = Some t
appended (b ∷ value) t = bounded ((b ∷ value) ++ space ∷ t)

-- a property takes a value that was put together, unless that is too long
abbrev pub property_joined : Rule → Text → Option Text → Scene → Scene
property_joined r name None s = noted r TextTooLong (word_of_key key.Env (Some name)) s
property_joined r name (Some value) s = with_env (with_value s.state.env name value) s

-- a text is appended to the value of a property; an empty text changes nothing
abbrev pub property_added : Rule → Text → Text → Scene → Scene
property_added r name t s = if is_empty t then s else property_joined r name (appended (or_empty (value_of s.state.env name)) t) s

-- a property as an operator changes it
abbrev pub property_changed : Rule → AssignOperator → Text → Text → Scene → Scene
property_changed r Add name t s = property_added r name t s
property_changed r _ name t s = with_env (property_set name t s.state.env) s

-- a byte, with `_` for a slash
abbrev pub unslashed_byte : ℕ → ℕ
unslashed_byte b = if b == slash then underscore else b

-- the value of a property as udev takes it: if the rule replaces bytes, those that do not belong in a link, spaces
-- and slashes become `_`
abbrev pub env_text : Escape → Text → Text
env_text Replace t = map unslashed_byte (with_underscores (safe link_marks t))
env_text e t = t

-- a text after a value, with a space between them, as udev puts it together; without a value it is the text
abbrev pub extended : Option Text → Text → Option Text
extended None t = short t
extended (Some value) t = short (value ++ space ∷ t)

-- a property takes a value that udev put together, unless that is too long
abbrev pub property_put : Rule → Text → Option Text → Scene → Scene
property_put r name None s = noted r TextTooLong (word_of_key key.Env (Some name)) s
property_put r name (Some value) s = with_env (property_set name value s.state.env) s

-- a text is appended to the value of a property for udev; a text that is written empty changes nothing
abbrev pub property_extended : Rule → Text → Text → Text → Scene → Scene
property_extended r name written t s = if is_empty written then s else property_put r name (extended (value_of s.state.env name) t) s

-- a property as an operator changes it for udev, with a text as it is written and once it is rendered
abbrev pub udev_property_changed : Rule → Escape → AssignOperator → Text → Text → Text → Scene → Scene
udev_property_changed r e Add name written t s = property_extended r name written (env_text e t) s
udev_property_changed r e _ name written t s = with_env (property_set name (env_text e t) s.state.env) s
