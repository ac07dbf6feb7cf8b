-- What a SCSI device reports about itself.
use Rattle.std.specs.Prelude.{List, [], ◌∷◌, ◌++◌, Option, Some, None, is_none, decimal, codes, if◌then◌else◌}
use Rattle.std.specs.Option.{option_and}
use Rattle.text_bytes.specs.Names.{colon}
use Rattle.text_bytes.specs.Text.{Text}
use Rattle.device_core.specs.Values.{DeviceValue}
use Rattle.builtin_devices.specs.Addresses.{address_of}
use Rattle.builtin_devices.specs.Devices.{attribute, kernel_of}
use Rattle.builtin_devices.specs.declared.addresses.Address.{Address}

-- texts of a SCSI device, as far as they count, and its target and unit
pub record UnitValue : Type 0 where
  pub vendor : Option Text
  pub model : Option Text
  pub kind : Option Text
  pub revision : Option Text
  pub instance : Option Text

-- no text counts
abbrev pub silent : UnitValue
silent = record { vendor = None; model = None; kind = None; revision = None; instance = None }

-- the target and the unit of an address as they are reported
abbrev pub instance_text : Address → Text
instance_text address = decimal address.target ++ colon ∷ decimal address.unit

-- The texts of a SCSI device with an instance. They are read in this order, and what follows the first that is absent
-- does not count.
abbrev pub texts_of : DeviceValue → (instance : Text) → UnitValue
texts_of unit instance =
    let vendor = attribute unit (codes "vendor") in
    let model = option_and vendor (attribute unit (codes "model")) in
    let kind = option_and model (attribute unit (codes "type")) in
    let revision = option_and kind (attribute unit (codes "rev")) in
    record { vendor = vendor; model = model; kind = kind; revision = revision; instance = option_and revision (Some instance) }

-- the texts of a SCSI device, by the address that its name is
abbrev pub unit_by : DeviceValue → Option Address → UnitValue
unit_by unit None = silent
unit_by unit (Some address) = texts_of unit (instance_text address)

-- the texts of the SCSI device that is asked, if one is
abbrev pub unit_texts : Option DeviceValue → UnitValue
unit_texts None = silent
unit_texts (Some unit) = unit_by unit (address_of (kernel_of unit))

-- the word for the first of these texts that is absent
abbrev pub absent_words : UnitValue → List Text
absent_words unit =
    if is_none unit.vendor then codes "vendor" ∷ []
    else if is_none unit.model then codes "model" ∷ []
    else if is_none unit.kind then codes "type" ∷ []
    else if is_none unit.revision then codes "rev" ∷ []
    else []

-- the same of a SCSI device, which is asked if its name is an address
abbrev pub words_by : DeviceValue → Option Address → List Text
words_by unit None = []
words_by unit (Some address) = absent_words (texts_of unit (instance_text address))

-- the same of the SCSI device that is asked, if one is
abbrev pub unit_words : Option DeviceValue → List Text
unit_words None = []
unit_words (Some unit) = words_by unit (address_of (kernel_of unit))
