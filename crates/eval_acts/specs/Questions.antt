-- TEST and PROGRAM: what the event answers. Each returns the scene after it, and whether it was done.
use Rattle.std.specs.Prelude.{ℕ, Bool, true, false, ◌==◌, ◌&&◌, ◌||◌, if◌then◌else◌, Option, Some, None, codes, is_some}
use Rattle.text_bytes.specs.Names.{slash}
use Rattle.text_bytes.specs.Texts.{begins_with, following}
use Rattle.text_bytes.specs.declared.profile.Profile.{Profile}
use Rattle.text_bytes.specs.declared.profile.Profile.TheVariants.{Manual, Udev}
use Rattle.text_bytes.specs.Text.{Text}
use Rattle.text_tables.specs.Pairs.{value_of}
use Rattle.device_core.specs.Values.{AnswerValue, DeviceValue, EventValue}
use Rattle.rule_types.specs.Rules.{Rule}
use Rattle.text_bytes.specs.Safe.{attribute_marks, safe}
use Rattle.eval_state.specs.Chains.{device_at}
use Rattle.eval_state.specs.Files.{is_end}
use Rattle.eval_state.specs.Named.{NamedValue, named, named_place}
use Rattle.eval_state.specs.Places.{is_there, place_of}
use Rattle.eval_state.specs.Scenes.{noted}
use Rattle.eval_state.specs.declared.note_kind.NoteKind.TheVariants.{TestNotMade, NoAnswer}
use Rattle.eval_state.specs.declared.scene.Scene.{Scene}
use Rattle.eval_rendering.specs.Behind.{linked_device}
use Rattle.eval_rendering.specs.Attributes.{is_not_read}

-- the result, changed
abbrev pub with_result : Text → Scene → Scene
with_result result s = record s { state = record s.state { result = result } }

-- whether there is a device, and something is where a name leads in its folder
abbrev pub is_found : EventValue → Text → Option DeviceValue → Bool
is_found event name None = false
is_found event name (Some device) = is_there event (place_of device name)

-- TEST of a path that names a device that is not in the chain: it is not made, unless the event device has it under
-- this whole path
abbrev pub tested_elsewhere : Rule → Text → Scene → Scene × Bool
tested_elsewhere r path s =
    if is_there s.state.event (place_of s.state.event.device path) then (s, true) else (noted r TestNotMade path s, false)

-- TEST of a file of the device at a place of the chain, if the device that is asked for is there
abbrev pub tested_at : Option ℕ → Rule → Text → Text → Scene → Scene × Bool
tested_at None r name path s = tested_elsewhere r path s
tested_at (Some place) r name path s = (s, is_found s.state.event name (device_at s.state.event place))

-- whether something is behind the link `device` of a device, or is that link, by what follows its name in a path
abbrev pub is_behind : EventValue → DeviceValue → Option Text → Bool
is_behind event device None = false
is_behind event device (Some rest) = is_end (Some rest) && is_found event rest (linked_device event device)

-- whether something is where a path leads from the folder of a device
abbrev pub is_somewhere : EventValue → DeviceValue → Text → Bool
is_somewhere event device path = is_there event (place_of device path) || is_behind event device (following (codes "device") path)

-- TEST of a path that names no device: it is not made if the block does not tell what is there
abbrev pub tested_here : Rule → Text → Scene → Scene × Bool
tested_here r path s =
    if is_somewhere s.state.event s.state.event.device path then (s, true)
    else if is_not_read path s.state.event then (noted r TestNotMade path s, false)
    else (s, false)

-- TEST as udev makes it: of a file or a folder of the event device, or of the device that the path names
abbrev pub tested_by_udev : Option NamedValue → Rule → Text → Scene → Scene × Bool
tested_by_udev None r path s = tested_here r path s
tested_by_udev (Some n) r path s = tested_at (named_place n s.state.event) r n.attribute path s

-- TEST of a relative path without a mask: by the manual it asks for an attribute of the event device
abbrev pub tested_by : Profile → Rule → Text → Scene → Scene × Bool
tested_by Manual r path s = (s, is_some (value_of s.state.event.device.attrs path))
tested_by Udev r path s = tested_by_udev (named path) r path s

-- TEST of a path: it is not made with a mask, nor with an absolute path
abbrev pub tested : Rule → (mask : Option Text) → (path : Text) → Scene → Scene × Bool
tested r mask path s =
    if is_some mask || begins_with slash path then (noted r TestNotMade path s, false)
    else tested_by s.state.event.profile r path s

-- the result that a program's text makes; udev replaces bytes in it as in an attribute in a text
abbrev pub result_of : Profile → Text → Text
result_of Manual text = text
result_of Udev text = safe attribute_marks text

-- a program that answered: if its status is 0, its text is the result
abbrev pub answered : AnswerValue → Scene → Scene × Bool
answered answer s = if answer.status == 0 then (with_result (result_of s.state.event.profile answer.text) s, true) else (s, false)

-- an answer to a command, or a note that there is none
abbrev pub answered_or_noted : Rule → Text → Option AnswerValue → Scene → Scene × Bool
answered_or_noted r command None s = (noted r NoAnswer command s, false)
answered_or_noted r command (Some answer) s = answered answer s

-- PROGRAM of a command, which the event's block answers
abbrev pub answered_by_block : Rule → Text → Scene → Scene × Bool
answered_by_block r command s = answered_or_noted r command (value_of s.state.event.programs command) s
