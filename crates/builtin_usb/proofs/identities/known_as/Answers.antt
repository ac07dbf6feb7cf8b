use Rattle.std.proofs.Common.{ap}
use Rattle.builtin_usb.specs.Units.{UnitValue}
use Rattle.builtin_usb.proofs.Knowing.{first_alike, known_so}
use Rattle.builtin_usb.proofs.identities.known_as.Goals as goal

pub returns : goal.returns
returns c =
    let seen = c.unit.view_is in
    known_so c.args.device.now c.args.unit.now c.args.kind.now c.args.vendor_id.now c.args.model_id.now _ _ _ _ _
    (first_alike _ _ c.args.unit.now.vendor _ _ c.in_ok-vendor.ensures (ap (λ (u : UnitValue). u.vendor) seen) c.attribute_or-vendor.ensures)
    (first_alike _ _ c.args.unit.now.model _ _ c.in_ok-model.ensures (ap (λ (u : UnitValue). u.model) seen) c.attribute_or-model.ensures)
    (first_alike _ _ c.args.unit.now.revision _ _ c.in_ok-revision.ensures (ap (λ (u : UnitValue). u.revision) seen) c.attribute_or-revision.ensures)
    c.device_serial.ensures c.in_ok-instance.ensures
