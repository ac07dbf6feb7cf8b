-- Which rules are tried at an event: none if its device has no event.
use Rattle.std.specs.Prelude.{Bool, false, not, ◌&&◌, if◌then◌else◌, is_none, List, [], codes}
use Rattle.text_bytes.specs.declared.profile.Profile.{Profile}
use Rattle.text_bytes.specs.declared.profile.Profile.TheVariants.{Manual, Udev}
use Rattle.text_tables.specs.Texts.{same_text}
use Rattle.device_core.specs.Values.{EventValue}

-- whether a device has no event by a profile: for udev one without a subsystem has none but its removal
abbrev pub lacks_event_by : Profile → EventValue → Bool
lacks_event_by Manual event = false
lacks_event_by Udev event = is_none event.device.subsystem && not (same_text event.action (codes "remove"))

-- whether the device of an event has no such event
unfoldable pub lacks_event : EventValue → Bool
lacks_event event = lacks_event_by event.profile event

-- the rules that are tried at an event
abbrev pub tried : {R : Type 0} → EventValue → List R → List R
tried event rules = if lacks_event event then [] else rules
