-- What laws.rt says about the definitions.
use Rattle.std.specs.Prelude.{◌≡◌, ◌≢◌, ℕ, Bool, true, false, nat_eq, List, [], ◌++◌, drop, filter, map, codes}
use Rattle.std.specs.List.{starts_with}
use Rattle.text_bytes.specs.Names.{colon}
use Rattle.text_bytes.specs.Texts.{begins_with, ends_in}
use Rattle.text_tables.specs.Pairs.{Pair}
use Rattle.device_core.specs.Values.{EventValue}
use Rattle.builtin_usb.specs.Interfaces.{descriptors_of, packed}
use Rattle.builtin_usb.specs.Identities.{IdentityValue, named, rows}
use Rattle.builtin_usb.specs.UsbId.{usb_id}

-- the same property with ID_USB_ instead of ID_
abbrev pub as_usb : Pair → Pair
as_usb pair = (codes "ID_USB_" ++ drop 3 pair.0, pair.1)

-- whether a property's name begins with ID_USB_
abbrev pub is_usb : Pair → Bool
is_usb pair = starts_with nat_eq pair.0 (codes "ID_USB_")

-- what is reported after ID_ is also reported after ID_USB_, with the same values in the same order
abbrev pub ReportedTwice : IdentityValue → Type 0
ReportedTwice i = named (codes "ID_USB_") (rows i) ≡ map as_usb (named (codes "ID_") (rows i))

-- whether ID_BUS was set before decides neither whether the builtin succeeds, nor which ID_USB_ properties it sets,
-- nor what is needed
pub record BusDoesNotMatter (event : EventValue) : Type 0 where
  pub success : (usb_id event true).is_done ≡ (usb_id event false).is_done
  pub properties : filter is_usb (usb_id event true).properties ≡ filter is_usb (usb_id event false).properties
  pub needs : (usb_id event true).needs ≡ (usb_id event false).needs

-- if the descriptors end as they should, a text of interfaces begins with a colon and ends in one
abbrev pub IsBetweenColons : (file : List ℕ) → Type 0
IsBetweenColons file =
    packed file ≢ [] → (descriptors_of file).is_closed ≡ true → (begins_with colon (packed file) ≡ true) × (ends_in colon (packed file) ≡ true)
