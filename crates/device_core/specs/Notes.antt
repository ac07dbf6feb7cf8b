-- Notes about a block: what in it udev would have been told otherwise, whatever the rules are. By the manual there are none.
use Rattle.std.specs.Prelude.{Bool, false, not, ◌&&◌, if◌then◌else◌, nat_eq, List, [], ◌∷◌, Option, Some, None, codes}
use Rattle.std.specs.Prelude.{flat_map, is_some, unwrap_or}
use Rattle.std.specs.List.{starts_with}
use Rattle.text_bytes.specs.Names.{carriage_return}
use Rattle.text_bytes.specs.Texts.{ends_in, is_empty, word_of}
use Rattle.text_bytes.specs.declared.profile.Profile.{Profile}
use Rattle.text_bytes.specs.declared.profile.Profile.TheVariants.{Manual, Udev}
use Rattle.text_bytes.specs.Text.{Text}
use Rattle.text_tables.specs.Texts.{is_among, same_text}
use Rattle.text_tables.specs.Pairs.{value_of}
use Rattle.device_core.specs.Values.{EventValue}
use Rattle.device_core.specs.declared.kinds.BlockNoteKind.{BlockNoteKind}
use Rattle.device_core.specs.Tried.{lacks_event}
use Rattle.device_core.specs.declared.kinds.BlockNoteKind.TheVariants.{BehindCommands, GoneAttributes, NoSubsystem, PathBeginsWithSys, ReturnAtEnds}
use Rattle.device_core.specs.declared.kinds.BlockNoteKind.TheVariants.{StoredByUdev, UnknownAction}
use Rattle.device_core.specs.declared.notes.BlockNote.{BlockNote}

-- the text of each kind of note
abbrev pub text_of : BlockNoteKind → Text
text_of UnknownAction = codes "unknown action"
text_of PathBeginsWithSys = codes "path begins with /sys"
text_of StoredByUdev = codes "stored by udev"
text_of BehindCommands = codes "misplaced property"
text_of NoSubsystem = codes "no subsystem, so no rule is tried"
text_of GoneAttributes = codes "attributes of a removed device"
text_of ReturnAtEnds = codes "carriage return at line ends"

-- the actions that udev has, as udevadm(8) lists them for `trigger --action`
abbrev pub actions : List Text
actions = codes "add" ∷ codes "remove" ∷ codes "change" ∷ codes "move" ∷ codes "online" ∷ codes "offline" ∷ codes "bind" ∷ codes "unbind" ∷ []

-- whether udev has no such action
abbrev pub is_unknown_action : Text → Bool
is_unknown_action action = not (is_among actions action)

-- whether a path begins with the folder that it is below
abbrev pub begins_with_sys : Text → Bool
begins_with_sys path = starts_with nat_eq path (codes "/sys/")

-- whether there is a value that is not empty: an empty one is no property for udev
abbrev pub is_filled : Option Text → Bool
is_filled None = false
is_filled (Some value) = not (is_empty value)

-- whether the device of an event is new, and has the property that udev stores of each device once it has handled the first
-- event of it: the kernel sends none of this name, so the block has what is stored of a device that udev knows already
abbrev pub is_stored_by_udev : EventValue → Bool
is_stored_by_udev event = same_text event.action (codes "add") && is_filled (value_of event.device.env (codes "USEC_INITIALIZED"))

-- whether a property of the farthest parent stands behind commands: at the end of a block it is most likely meant for the device,
-- and without a parent it is the device's
abbrev pub is_behind_commands : EventValue → Bool
is_behind_commands event = not (is_empty event.parents) && is_some event.misplaced

-- the note of a kind about a text
abbrev pub note_about : BlockNoteKind → Text → BlockNote
note_about kind text = record { kind = kind; word = word_of text }

-- this note, if it is so
abbrev pub note_if : Bool → BlockNoteKind → Text → List BlockNote
note_if is_so kind text = if is_so then note_about kind text ∷ [] else []

-- whether the device of an event is removed, and the block has attributes of it: udev finds none once the device is gone
abbrev pub has_gone_attributes : EventValue → Bool
has_gone_attributes event = same_text event.action (codes "remove") && not (is_empty event.device.attrs)

-- whether a note of a kind is due about the block of an event
abbrev pub is_due : EventValue → BlockNoteKind → Bool
is_due event UnknownAction = is_unknown_action event.action
is_due event PathBeginsWithSys = begins_with_sys event.device.path
is_due event StoredByUdev = is_stored_by_udev event
is_due event BehindCommands = is_behind_commands event
is_due event NoSubsystem = lacks_event event
is_due event GoneAttributes = has_gone_attributes event
is_due event ReturnAtEnds = ends_in carriage_return event.device.path

-- the text that a note of a kind is about
abbrev pub about : EventValue → BlockNoteKind → Text
about event UnknownAction = event.action
about event PathBeginsWithSys = event.device.path
about event StoredByUdev = codes "USEC_INITIALIZED"
about event BehindCommands = unwrap_or event.misplaced []
about event NoSubsystem = event.device.path
about event GoneAttributes = event.device.path
about event ReturnAtEnds = event.device.path

-- the kinds of notes, in their order
abbrev pub kinds : List BlockNoteKind
kinds = UnknownAction ∷ PathBeginsWithSys ∷ StoredByUdev ∷ BehindCommands ∷ NoSubsystem ∷ GoneAttributes ∷ ReturnAtEnds ∷ []

-- the note of a kind about the block of an event, if it is due
abbrev pub due_note : EventValue → BlockNoteKind → List BlockNote
due_note event kind = note_if (is_due event kind) kind (about event kind)

-- the notes about a block over which rules are evaluated as by udev
abbrev pub udev_notes : EventValue → List BlockNote
udev_notes event = flat_map (due_note event) kinds

-- the notes about a block by a profile
abbrev pub notes_by : Profile → EventValue → List BlockNote
notes_by Manual event = []
notes_by Udev event = udev_notes event

-- the notes about the block of an event
unfoldable pub block_notes : EventValue → List BlockNote
block_notes event = notes_by event.profile event
