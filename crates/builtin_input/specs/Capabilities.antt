-- What an input device reports about itself.
use Rattle.std.specs.Prelude.{ℕ, ◌^◌, ◌-◌, [], unwrap_or, codes}
use Rattle.text_bytes.specs.Text.{Text}
use Rattle.text_tables.specs.Pairs.{value_of}
use Rattle.device_core.specs.Values.{DeviceValue}
use Rattle.builtin_devices.specs.Numbers.{number_in}
use Rattle.builtin_devices.specs.declared.numbers.Base.TheVariants.{Hexadecimal}
use Rattle.builtin_input.specs.Bitmaps.{Bitmap, bitmap, most_words}

-- the kinds of events that a device has, its keys, its absolute and its relative axes, its properties, and its bus
pub record CapabilitiesValue : Type 0 where
  pub events : Bitmap
  pub keys : Bitmap
  pub absolute_axes : Bitmap
  pub relative_axes : Bitmap
  pub properties : Bitmap
  pub bus : ℕ

-- what a device reports that has none of these, on a bus
abbrev pub nothing : (bus : ℕ) → CapabilitiesValue
nothing bus = record { events = []; keys = []; absolute_axes = []; relative_axes = []; properties = []; bus = bus }

-- the text of an attribute, empty if it is absent
abbrev pub text_of : DeviceValue → Text → Text
text_of device name = unwrap_or (value_of device.attrs name) []

-- the number of a bus: in base 16 and of 16 bits, else 0
unfoldable pub bus_number : Text → ℕ
bus_number text = unwrap_or (number_in Hexadecimal (2 ^ 16 - 1) text) 0

-- what a device reports about itself; of each bitmap except that of keys one word counts
unfoldable pub capabilities : DeviceValue → CapabilitiesValue
capabilities device = record {
  events = bitmap 1 (text_of device (codes "capabilities/ev"));
  keys = bitmap most_words (text_of device (codes "capabilities/key"));
  absolute_axes = bitmap 1 (text_of device (codes "capabilities/abs"));
  relative_axes = bitmap 1 (text_of device (codes "capabilities/rel"));
  properties = bitmap 1 (text_of device (codes "properties"));
  bus = bus_number (text_of device (codes "id/bustype"));
}
