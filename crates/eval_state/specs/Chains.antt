-- The devices of an event by their places, and the names that the kernel gives them.
use Rattle.std.specs.Prelude.{ℕ, Option, slice_get}
use Rattle.text_bytes.specs.Text.{Text}
use Rattle.device_core.specs.Values.{DeviceValue, EventValue, chain}
use Rattle.text_bytes.specs.Kernels.{kernel_name}

-- the kernel's name of a device
abbrev pub kernel_of : DeviceValue → Text
kernel_of device = kernel_name device.path

-- the device at a position of the chain, if there is one; the event device is at 0
abbrev pub device_at : EventValue → ℕ → Option DeviceValue
device_at event place = slice_get (chain event) place
