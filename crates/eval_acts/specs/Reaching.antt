-- What a match leaves by being reached.
use Rattle.std.specs.Prelude.{if◌then◌else◌}
use Rattle.text_bytes.specs.Text.{Text}
use Rattle.rule_types.specs.declared.roles.PlainKey.{PlainKey}
use Rattle.rule_types.specs.declared.roles.PlainKey.TheVariants as plain
use Rattle.rule_types.specs.Rules.{Rule}
use Rattle.eval_rendering.specs.Attributes.{is_not_read}
use Rattle.eval_rendering.specs.Subjects.{is_not_given}
use Rattle.eval_state.specs.Scenes.{noted}
use Rattle.eval_state.specs.declared.note_kind.NoteKind.TheVariants.{AttributeNotRead, ConstantNotGiven, SysctlNotRead}
use Rattle.eval_state.specs.declared.scene.Scene.{Scene}

-- a match of an attribute that is reached: an attribute that udev would read and a dry run does not leaves a note
abbrev pub attribute_reached : Rule → Text → Scene → Scene
attribute_reached r name s = if is_not_read name s.state.event then noted r AttributeNotRead name s else s

-- a match of a constant that is reached: one that udev knows of its machine and the event does not give leaves a note
abbrev pub constant_reached : Rule → Text → Scene → Scene
constant_reached r name s = if is_not_given name s.state.event then noted r ConstantNotGiven name s else s

-- a match of the event that is reached: SYSCTL, which is not read, leaves a note, and so does an attribute that is not
-- read or a constant that is not given
abbrev pub match_reached : Rule → PlainKey → Scene → Scene
match_reached r (plain.Sysctl name) s = noted r SysctlNotRead name s
match_reached r (plain.Attr name) s = attribute_reached r name s
match_reached r (plain.Const name) s = constant_reached r name s
match_reached r key s = s
