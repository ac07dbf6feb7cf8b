-- Which devices usb_id is about.
use Rattle.std.specs.Prelude.{Bool, false, ◌&&◌, ◌||◌, List, [], ◌∷◌, Option, Some, None, is_none, is_some, codes, if◌then◌else◌}
use Rattle.text_bytes.specs.Text.{Text}
use Rattle.device_core.specs.Values.{DeviceValue, EventValue}
use Rattle.builtin_devices.specs.Devices.{above, is_of, is_text, parents_of, type_of}
use Rattle.builtin_usb.specs.Kinds.{class_of, takes_scsi}

-- whether a device of a subsystem has no type
abbrev pub is_untyped : (subsystem : Text) → DeviceValue → Bool
is_untyped subsystem device = is_text subsystem device.subsystem && is_none (type_of device)

-- whether one of these devices that is of a subsystem and has no type comes before the first of that subsystem and a
-- type
abbrev pub untyped_among : (subsystem kind : Text) → List DeviceValue → Bool
untyped_among subsystem kind [] = false
untyped_among subsystem kind (device ∷ devices) =
    if is_of subsystem (Some kind) device then false else is_untyped subsystem device || untyped_among subsystem kind devices

-- A device that is searched for, and whether the search met one of its subsystem that has no type, which may be it.
pub record FoundValue : Type 0 where
  pub device : Option DeviceValue
  pub is_unsure : Bool

-- a device that is not searched for
abbrev pub unsearched : Option DeviceValue → FoundValue
unsearched device = record { device = device; is_unsure = false }

-- the nearest device above a path that is of a subsystem and a type
abbrev pub nearest : EventValue → (subsystem kind path : Text) → FoundValue
nearest event subsystem kind path = record {
  device = above event subsystem (Some kind) path;
  is_unsure = untyped_among subsystem kind (parents_of event path);
}

-- whether a device is a USB device by its type, of whatever subsystem
abbrev pub is_usb_device : DeviceValue → Bool
is_usb_device device = is_text (codes "usb_device") (type_of device)

-- the interface above an event device that is not itself a USB device
abbrev pub interface_of : EventValue → FoundValue
interface_of event =
    if is_usb_device event.device then unsearched None else nearest event (codes "usb") (codes "usb_interface") event.device.path

-- the USB device of an interface whose class is a number
abbrev pub device_above : EventValue → (interface : Option DeviceValue) → FoundValue
device_above event None = unsearched None
device_above event (Some interface) =
    if is_some (class_of interface) then nearest event (codes "usb") (codes "usb_device") interface.path else unsearched None

-- the USB device: the event device itself, or the one of its interface
abbrev pub device_of : EventValue → (interface : Option DeviceValue) → FoundValue
device_of event interface = if is_usb_device event.device then unsearched (Some event.device) else device_above event interface

-- the SCSI device that is asked: the one above the event device, if there is a USB device and the interface takes
-- commands of SCSI
abbrev pub unit_of : EventValue → (interface device : Option DeviceValue) → FoundValue
unit_of event None device = unsearched None
unit_of event (Some interface) device =
    if is_some device && takes_scsi interface then nearest event (codes "scsi") (codes "scsi_device") event.device.path else unsearched None
