-- The interfaces of a USB device, as its file of descriptors has them.
use Rattle.std.specs.Prelude.{ℕ, ◌-◌, ◌/◌, ◌%◌, Bool, true, false, not, ◌&&◌, ◌||◌, ◌==◌, nat_lt, zero, suc, List, [], ◌∷◌, ◌++◌, length, slice_index}
use Rattle.std.specs.Prelude.{fold, flat_map, Option, Some, None, if◌then◌else◌}
use Rattle.std.specs.List.{list_any, filter_map}
use Rattle.text_bytes.specs.Names.{colon}
use Rattle.text_bytes.specs.Texts.{is_empty}
use Rattle.text_bytes.specs.Text.{Text}
use Rattle.text_bytes.specs.Encoded.{small_digits}
use Rattle.builtin_usb.specs.declared.interfaces.Interface.{Interface}

-- the bytes of the descriptor of a device, with which the file begins
abbrev pub device_bytes : ℕ
device_bytes = 18

-- the bytes of the descriptor of an interface
abbrev pub interface_bytes : ℕ
interface_bytes = 9

-- the most interfaces that are reported
abbrev pub most_interfaces : ℕ
most_interfaces = 72

-- the descriptors of a file, each with all that follows it, and whether they end as they should
pub record Descriptors : Type 0 where
  pub from : List Text
  pub is_closed : Bool

-- no descriptor
abbrev pub ending : Bool → Descriptors
ending is_closed = record { from = []; is_closed = is_closed }

-- one more descriptor in front
abbrev pub prepended : Text → Descriptors → Descriptors
prepended text others = record { from = text ∷ others.from; is_closed = others.is_closed }

-- The descriptors of a text after so many bytes to be skipped. The first byte of a descriptor is its length. A
-- descriptor counts if more bytes are left, from its start on, than an interface has. A length below 3 ends them, and
-- so does one over the longest, which is not a proper end.
abbrev pub descriptors : (longest passed : ℕ) → Text → Descriptors
descriptors longest passed [] = ending true
descriptors longest (suc passed) (b ∷ text) = descriptors longest passed text
descriptors longest zero (b ∷ text) =
    if nat_lt (length text) interface_bytes || nat_lt b 3 then ending true
    else if nat_lt longest b then ending false
    else prepended (b ∷ text) (descriptors longest (b - 1) text)

-- the descriptors of a whole file, of which none may be longer than the file without the bytes of an interface
abbrev pub descriptors_of : Text → Descriptors
descriptors_of file = descriptors (length file - interface_bytes) 0 file

-- the interface that a descriptor describes, which is of kind 4, by the bytes 5 to 7 from its start on, which need
-- not be its own
abbrev pub interface_of : Text → Option Interface
interface_of text =
    if slice_index text 1 == 4 then Some (record { class = slice_index text 5; subclass = slice_index text 6; protocol = slice_index text 7 })
    else None

-- whether two interfaces are of the same class, subclass and protocol
abbrev pub same_interface : Interface → Interface → Bool
same_interface a b = a.class == b.class && (a.subclass == b.subclass && a.protocol == b.protocol)

-- one more interface, unless there is one of its kind, or there are as many as are reported
abbrev pub with_interface : List Interface → Interface → List Interface
with_interface found interface =
    if nat_lt (length found) most_interfaces && not (list_any (same_interface interface) found) then found ++ interface ∷ [] else found

-- the interfaces of a file that are reported, each once
abbrev pub interfaces : Text → List Interface
interfaces file = fold with_interface [] (filter_map interface_of (descriptors_of file).from)

-- a byte as two lower case hexadecimal digits
abbrev pub two_digits : ℕ → Text
two_digits b = slice_index small_digits (b / 16) ∷ slice_index small_digits (b % 16) ∷ []

-- an interface as it is reported: a colon and six digits
abbrev pub written : Interface → Text
written interface = colon ∷ two_digits interface.class ++ two_digits interface.subclass ++ two_digits interface.protocol

-- a colon after interfaces, if there are some and they end as they should
abbrev pub closing : List Interface → Bool → Text
closing found is_closed = if not (is_empty found) && is_closed then colon ∷ [] else []

-- Interfaces in one text, with a colon at the end if all descriptors were read or as many interfaces were found as
-- are reported.
abbrev pub joined : List Interface → Bool → Text
joined found is_closed = flat_map written found ++ closing found (is_closed || length found == most_interfaces)

-- what ID_USB_INTERFACES is by the file of descriptors: nothing if it is shorter than the descriptor of a device
unfoldable pub packed : Text → Text
packed file = if nat_lt (length file) device_bytes then [] else joined (interfaces file) (descriptors_of file).is_closed
