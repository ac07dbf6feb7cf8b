-- The note on a block that gives no attribute of any device, if a rule looks at one.
use Rattle.std.specs.Prelude.{Bool, not, ◌&&◌, ◌||◌, if◌then◌else◌, List, [], ◌∷◌, Option, Some, None, codes, option_map}
use Rattle.std.specs.List.{list_all}
use Rattle.std.specs.Option.{option_or}
use Rattle.text_bytes.specs.declared.profile.Profile.{Profile}
use Rattle.text_bytes.specs.declared.profile.Profile.TheVariants.{Manual, Udev}
use Rattle.text_bytes.specs.Text.{Text}
use Rattle.text_bytes.specs.Names.{dot, open_bracket}
use Rattle.text_bytes.specs.Texts.{begins_with, is_empty}
use Rattle.text_tables.specs.Texts.{same_text}
use Rattle.rule_types.specs.declared.part.PlainMatch.{PlainMatch}
use Rattle.rule_types.specs.declared.part.UpMatch.{UpMatch}
use Rattle.rule_types.specs.declared.roles.PlainKey.{PlainKey}
use Rattle.rule_types.specs.declared.roles.PlainKey.TheVariants as plain
use Rattle.rule_types.specs.declared.roles.UpKey.{UpKey}
use Rattle.rule_types.specs.declared.roles.UpKey.TheVariants as up
use Rattle.rule_types.specs.Rules.{Rule}
use Rattle.device_core.specs.Values.{DeviceValue, EventValue}
use Rattle.eval_rendering.specs.Behind.{may_be_untold}
use Rattle.eval_state.specs.Notes.{note_about}
use Rattle.eval_state.specs.declared.note_kind.NoteKind.TheVariants.{AttributesNotGiven}
use Rattle.eval_state.specs.declared.notes.Note.{Note}

-- whether a name may lead to another device, or to what a block does not tell: it begins with `[` or with `.`, leads into a folder, or is
-- that of a file without a value of one line
abbrev pub is_of_others : Text → Bool
is_of_others name = (begins_with open_bracket name || begins_with dot name) || may_be_untold name

-- the name of an attribute that a device has itself: others have notes of their own
abbrev pub own_name : Text → Option Text
own_name name = if is_of_others name then None else Some name

-- the attribute of the device itself that a match of the event looks at
abbrev pub plain_name : PlainKey → Option Text
plain_name (plain.Attr name) = own_name name
plain_name other = None

-- the attribute of the device itself that a match of one device looks at
abbrev pub up_name : UpKey → Option Text
up_name (up.Attrs name) = own_name name
up_name other = None

-- the first such attribute among matches of the event
unfoldable pub first_plain : List PlainMatch → Option Text
first_plain [] = None
first_plain (part ∷ parts) = option_or (plain_name part.key) (first_plain parts)

-- the first among matches of one device
unfoldable pub first_up : List UpMatch → Option Text
first_up [] = None
first_up (part ∷ parts) = option_or (up_name part.key) (first_up parts)

-- the first attribute that a rule looks at: in its matches of the event, and then in those of one device
abbrev pub looked_at : Rule → Option Text
looked_at r = option_or (first_plain r.plain) (first_up r.up)

-- the note of the first of these rules that looks at an attribute
unfoldable pub first_looking : List Rule → Option Note
first_looking [] = None
first_looking (r ∷ rs) = option_or (option_map (note_about r AttributesNotGiven) (looked_at r)) (first_looking rs)

-- whether a block gives no attribute of a device
abbrev pub is_bare : DeviceValue → Bool
is_bare device = is_empty device.attrs

-- whether a block gives no attribute of any device, and its event device is not removed: once it is gone it has none
abbrev pub gives_none : EventValue → Bool
gives_none event =
    not (same_text event.action (codes "remove"))
    && (is_bare event.device && list_all is_bare event.parents)

-- the note on a block without attributes by a profile: by the manual there is none
abbrev pub not_given_by : Profile → List Rule → EventValue → Option Note
not_given_by Manual rules event = None
not_given_by Udev rules event = if gives_none event then first_looking rules else None

-- the note on a block without attributes, by the first rule that looks at one
abbrev pub not_given : List Rule → EventValue → Option Note
not_given rules event = not_given_by event.profile rules event
