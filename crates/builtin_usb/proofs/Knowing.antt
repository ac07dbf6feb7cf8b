-- What is known of a device, by its parts.
use Rattle.std.proofs.Common.{◌≡◌, [], Option, ap, ◌∙◌, codes, unwrap_or}
use Rattle.text_bytes.specs.Text.{Text}
use Rattle.device_core.specs.Values.{DeviceValue}
use Rattle.builtin_usb.specs.Identities.{IdentityValue, from_first, known_as, serial_of}
use Rattle.builtin_devices.specs.Devices.{attribute}
use Rattle.builtin_usb.specs.Units.{UnitValue}

-- what is known, by its texts
abbrev pub made_from : (kind vendor_id model_id vendor model revision serial instance : Text) → IdentityValue
made_from kind vendor_id model_id vendor model revision serial instance = record {
  vendor = vendor;
  vendor_id = vendor_id;
  model = model;
  model_id = model_id;
  revision = revision;
  serial = serial;
  kind = kind;
  instance = instance;
}

-- a text of the SCSI device or of the USB device, if each of the two is what another text is
pub first_alike : (text : Text) (described counts : Option Text) (held own : Text)
    → text ≡ from_first described held → described ≡ counts → held ≡ own → text ≡ from_first counts own
first_alike text described counts held own e same alike = e ∙ ap (λ (o : Option Text). from_first o held) same ∙ ap (from_first counts) alike

-- what is known if each text is the one that is meant
pub known_so : (device : DeviceValue) (unit : UnitValue) (kind vendor_id model_id vendor model revision serial instance : Text)
    → vendor ≡ from_first unit.vendor (unwrap_or (attribute device (codes "manufacturer")) vendor_id)
    → model ≡ from_first unit.model (unwrap_or (attribute device (codes "product")) model_id)
    → revision ≡ from_first unit.revision (unwrap_or (attribute device (codes "bcdDevice")) [])
    → serial ≡ serial_of (attribute device (codes "serial"))
    → instance ≡ unwrap_or unit.instance []
    → made_from kind vendor_id model_id vendor model revision serial instance ≡ known_as device unit kind vendor_id model_id
known_so device unit kind vendor_id model_id vendor model revision serial instance v m r s i =
    let k = known_as device unit kind vendor_id model_id in
    ap (λ (t : Text). made_from kind vendor_id model_id t model revision serial instance) v
    ∙ ap (λ (t : Text). made_from kind vendor_id model_id k.vendor t revision serial instance) m
    ∙ ap (λ (t : Text). made_from kind vendor_id model_id k.vendor k.model t serial instance) r
    ∙ ap (λ (t : Text). made_from kind vendor_id model_id k.vendor k.model k.revision t instance) s
    ∙ ap (λ (t : Text). made_from kind vendor_id model_id k.vendor k.model k.revision k.serial t) i
