-- What a USB device reports about itself, and the properties that give it.
use Rattle.std.specs.Prelude.{ℕ, Bool, true, not, ◌&&◌, nat_le, ◌==◌, List, [], ◌∷◌, ◌++◌, take, Option, Some, None, unwrap_or, option_map}
use Rattle.std.specs.Prelude.{filter_map, codes, if◌then◌else◌}
use Rattle.std.specs.List.{list_all}
use Rattle.text_bytes.specs.Names.{comma, delete, minus, space, underscore}
use Rattle.text_bytes.specs.Texts.{is_empty}
use Rattle.text_bytes.specs.Text.{Text}
use Rattle.text_tables.specs.Pairs.{Pair}
use Rattle.text_bytes.specs.Characters.{value_safe}
use Rattle.text_bytes.specs.Encoded.{encoded}
use Rattle.text_bytes.specs.Underscores.{underscored}
use Rattle.device_core.specs.Values.{DeviceValue}
use Rattle.builtin_devices.specs.Devices.{attribute}
use Rattle.builtin_devices.specs.Outcomes.{lacking}
use Rattle.builtin_usb.specs.Units.{UnitValue}

-- what is known about a device, with its texts as it has them; empty if there are none
pub record IdentityValue : Type 0 where
  pub vendor : Text
  pub vendor_id : Text
  pub model : Text
  pub model_id : Text
  pub revision : Text
  pub serial : Text
  pub kind : Text
  pub instance : Text

-- the most bytes of a vendor, a model or a revision that are reported
abbrev pub most_bytes : ℕ
most_bytes = 63

-- the most bytes of a serial number that are reported
abbrev pub most_serial_bytes : ℕ
most_serial_bytes = 511

-- a text as it is reported: of at most so many bytes at its start, the words with `_` between them, made safe as a
-- value
unfoldable pub shown : (most : ℕ) → Text → Text
shown most text = value_safe (underscored (take most text))

-- the first of two texts if anything of it is reported, else the second
abbrev pub from_first : Option Text → Text → Text
from_first None other = other
from_first (Some text) other = if is_empty (shown most_bytes text) then other else text

-- whether nothing is reported for a text, or there is none
abbrev pub says_nothing : Option Text → Bool
says_nothing None = true
says_nothing (Some text) = is_empty (shown most_bytes text)

-- whether a serial number may have a byte: a space, a letter, a digit or a sign of ASCII, or the byte after these,
-- but not a comma
abbrev pub may_number : ℕ → Bool
may_number b = nat_le space b && nat_le b delete && not (b == comma)

-- a serial number, if each of its bytes may be in one
abbrev pub serial_of : Option Text → Text
serial_of None = []
serial_of (Some text) = if list_all may_number text then text else []

-- what is known about a device whose vendor and product have numbers
abbrev pub known_as : DeviceValue → UnitValue → (kind vendor_id model_id : Text) → IdentityValue
known_as device unit kind vendor_id model_id = record {
  vendor = from_first unit.vendor (unwrap_or (attribute device (codes "manufacturer")) vendor_id);
  vendor_id = vendor_id;
  model = from_first unit.model (unwrap_or (attribute device (codes "product")) model_id);
  model_id = model_id;
  revision = from_first unit.revision (unwrap_or (attribute device (codes "bcdDevice")) []);
  serial = serial_of (attribute device (codes "serial"));
  kind = kind;
  instance = unwrap_or unit.instance [];
}

-- the word for the revision, which is asked for if the SCSI device gives none
abbrev pub revision_words : DeviceValue → UnitValue → List Text
revision_words device unit = if says_nothing unit.revision then lacking device (codes "bcdDevice") (codes "bcdDevice") else []

-- what is known about a device, if something is, and words for what it lacks to know more
pub record KnownValue : Type 0 where
  pub identity : Option IdentityValue
  pub needs : List Text

-- the same by both numbers
abbrev pub known_by : DeviceValue → UnitValue → (kind : Text) → (vendor_id model_id : Option Text) → KnownValue
known_by device unit kind None model_id = record { identity = None; needs = codes "idVendor" ∷ [] }
known_by device unit kind (Some vendor_id) None = record { identity = None; needs = codes "idProduct" ∷ [] }
known_by device unit kind (Some vendor_id) (Some model_id) =
    record { identity = Some (known_as device unit kind vendor_id model_id); needs = revision_words device unit }

-- What is known about a USB device, with a SCSI device that is asked and the kind that ID_TYPE gives. Texts of the
-- SCSI device count before its own, and the numbers replace texts that are absent. Without either number nothing is
-- known.
abbrev pub identity_of : DeviceValue → UnitValue → (kind : Text) → KnownValue
identity_of device unit kind = known_by device unit kind (attribute device (codes "idVendor")) (attribute device (codes "idProduct"))

-- a text after a mark, or nothing if it is empty
abbrev pub marked : (mark : ℕ) → Text → Text
marked mark text = if is_empty text then [] else mark ∷ text

-- vendor, model, serial number and instance in one text
abbrev pub all_texts : IdentityValue → Text
all_texts i =
    shown most_bytes i.vendor ++ underscore ∷ shown most_bytes i.model ++ marked underscore (shown most_serial_bytes i.serial)
    ++ marked minus i.instance

-- ID_SERIAL: that text, of which at most 255 bytes are reported
unfoldable pub full_serial : IdentityValue → Text
full_serial i = take 255 (all_texts i)

-- a text that is set only if it is not empty
abbrev pub unless_empty : Text → Option Text
unless_empty text = if is_empty text then None else Some text

-- names after a prefix, and the values that are set; an empty one removes the property
unfoldable pub rows : IdentityValue → List (Text × Option Text)
rows i =
    (codes "MODEL", Some (shown most_bytes i.model))
    ∷ (codes "MODEL_ENC", Some (encoded i.model))
    ∷ (codes "MODEL_ID", Some i.model_id)
    ∷ (codes "SERIAL", Some (full_serial i))
    ∷ (codes "SERIAL_SHORT", unless_empty (shown most_serial_bytes i.serial))
    ∷ (codes "VENDOR", Some (shown most_bytes i.vendor))
    ∷ (codes "VENDOR_ENC", Some (encoded i.vendor))
    ∷ (codes "VENDOR_ID", Some i.vendor_id)
    ∷ (codes "REVISION", Some (shown most_bytes i.revision))
    ∷ (codes "TYPE", unless_empty i.kind)
    ∷ (codes "INSTANCE", unless_empty i.instance)
    ∷ []

-- the rows that have a value as properties after a prefix
abbrev pub named : (prefix : Text) → List (Text × Option Text) → List Pair
named prefix pairs = filter_map (λ row. option_map (λ value. (prefix ++ row.0, value)) row.1) pairs
