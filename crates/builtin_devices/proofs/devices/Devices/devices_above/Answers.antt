use Rattle.std.proofs.Common.{◌≡◌, None}
use Rattle.builtin_devices.specs.Upward.{device_at}
use Rattle.builtin_devices.proofs.FirstDevices.{all_looked_at}
use Rattle.builtin_devices.proofs.devices.Devices.devices_above.Goals as goal

pub returns : goal.returns
returns c = λ place inside.
    let empty : device_at c.new-above.result place ≡ None = rw c.new-above.ensures.empty in
    all_looked_at c.args.self.now c.args.path.now place _ _ _ (cc) (cc) (cc) _ _ _ _ empty
    (c.in_ok-add_device.ensures place inside)
    (c.in_ok-add_devices.ensures place inside)
    (c.in_ok-add_devices-2.ensures place inside)
