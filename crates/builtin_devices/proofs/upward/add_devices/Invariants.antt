use Rattle.std.proofs.Common.{◌≡◌, ◌<◌, ℕ, length, take}
use Rattle.std.specs.Option.{option_or}
use Rattle.builtin_devices.specs.Upward.{device_at, first_before}
use Rattle.builtin_devices.proofs.upward.add_devices.Given as goal

abbrev pub invariant-loop-device : goal.invariant-loop-device
invariant-loop-device l =
    (place : ℕ) → place < length l.path → device_at l.above place ≡ option_or (device_at l.fn.above place) (first_before (take l.device-index l.devices) l.path place)
