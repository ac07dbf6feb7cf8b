-- The modalias that udev makes up for a USB device that has none.
use Rattle.std.specs.Prelude.{ℕ, ◌/◌, ◌%◌, [], ◌∷◌, ◌++◌, take, Option, Some, None, codes, if◌then◌else◌}
use Rattle.std.specs.Option.{option_and_then}
use Rattle.text_bytes.specs.Escapes.{hex_digit}
use Rattle.text_bytes.specs.Names.{colon}
use Rattle.text_bytes.specs.Text.{Text}
use Rattle.text_tables.specs.Pairs.{value_of}
use Rattle.device_core.specs.Values.{DeviceValue}
use Rattle.builtin_devices.specs.Devices.{is_of}
use Rattle.builtin_devices.specs.Numbers.{number_in}
use Rattle.builtin_devices.specs.declared.numbers.Base.TheVariants.{Hexadecimal}
use Rattle.eval_state.specs.Texts.{or_empty}

-- the greatest number of a vendor and of a product
abbrev pub most_number : ℕ
most_number = 65535

-- the most bytes that are made up
abbrev pub most_made_bytes : ℕ
most_made_bytes = 2047

-- the number that an attribute of a device is, in base sixteen and of 16 bits
abbrev pub number_of : DeviceValue → (attribute : Text) → Option ℕ
number_of device attribute = option_and_then (number_in Hexadecimal most_number) (value_of device.attrs attribute)

-- a number as four upper case hexadecimal digits
abbrev pub four_digits : ℕ → Text
four_digits n = hex_digit (n / 4096 % 16) ∷ hex_digit (n / 256 % 16) ∷ hex_digit (n / 16 % 16) ∷ hex_digit (n % 16) ∷ []

-- the text of a vendor, a product and the product's name, `usb:vVVVVpPPPP:NAME`
abbrev pub usb_text : (vendor product : ℕ) → (name : Text) → Text
usb_text vendor product name = take most_made_bytes (codes "usb:v" ++ four_digits vendor ++ codes "p" ++ four_digits product ++ colon ∷ name)

-- the text of a device by both of its numbers; a product without a name has the empty one
abbrev pub text_by : DeviceValue → (vendor product : Option ℕ) → Option Text
text_by device None product = None
text_by device (Some vendor) None = None
text_by device (Some vendor) (Some product) = Some (usb_text vendor product (or_empty (value_of device.attrs (codes "product"))))

-- the text of a device that has both numbers
unfoldable pub usb_modalias : DeviceValue → Option Text
usb_modalias device = text_by device (number_of device (codes "idVendor")) (number_of device (codes "idProduct"))

-- what is made up for a device: something for one of the subsystem usb that the kernel calls a usb_device
abbrev pub made_up : DeviceValue → Option Text
made_up device = if is_of (codes "usb") (Some (codes "usb_device")) device then usb_modalias device else None
