-- SCSI: the transport that the path of a device shows, and what the device adds by it.
use Rattle.std.specs.Prelude.{ℕ, ◌+◌, ◌-◌, ◌^◌, ◌==◌, ◌/◌, ◌%◌, false, true, not, ◌&&◌, nat_lt, List, [], ◌∷◌, ◌++◌, codes, decimal, drop}
use Rattle.std.specs.Prelude.{filter, filter_map, find, fold, if◌then◌else◌, is_some, map, min, Option, Some, None, option_and_then, option_map, slice_get}
use Rattle.std.specs.Prelude.{slice_index, take}
use Rattle.std.specs.List.{concat}
use Rattle.std.specs.Option.{option_map_or}
use Rattle.text_bytes.specs.Names.{close_brace, minus, open_brace, slash}
use Rattle.text_bytes.specs.Texts.{begins_with, split_once}
use Rattle.text_bytes.specs.Text.{Text}
use Rattle.text_tables.specs.Texts.{is_among, same_text}
use Rattle.text_bytes.specs.Encoded.{small_digits}
use Rattle.text_bytes.specs.Kernels.{last_component}
use Rattle.device_core.specs.Values.{DeviceValue}
use Rattle.builtin_devices.specs.Addresses.{address_of}
use Rattle.builtin_devices.specs.Devices.{attribute, is_text, type_of}
use Rattle.builtin_devices.specs.Numbers.{name_number, number_in}
use Rattle.builtin_devices.specs.declared.addresses.Address.{Address}
use Rattle.builtin_devices.specs.declared.numbers.Base.TheVariants.{AsWritten, Decimal}
use Rattle.builtin_path.specs.Members.{attribute_at, begins, below_first, class_attribute, class_attribute_at, folder, from_first, row}
use Rattle.builtin_path.specs.Stops.{absent, adding, ending, passing}
use Rattle.builtin_path.specs.Texts.{first_place}
use Rattle.builtin_path.specs.declared.scsi.TheConstants.{TRANSPORTS}
use Rattle.builtin_path.specs.declared.scsi.Transport.{Transport}
use Rattle.builtin_path.specs.declared.scsi.Transport.TheVariants as transport
use Rattle.builtin_path.specs.declared.stops.Next.TheVariants.{Fails, On}
use Rattle.builtin_path.specs.declared.stops.Share.TheVariants.{Ata}
use Rattle.builtin_path.specs.declared.stops.Stop.{Stop}

-- what a table has beside the first of its texts that is in a path
abbrev pub described_by : List (Text × Transport) → (path : Text) → Option Transport
described_by rows path = option_map (λ row. row.1) (find (λ row. is_some (first_place row.0 path)) rows)

-- the transport that a path shows, by the code's table
unfoldable pub transport_of : (path : Text) → Option Transport
transport_of path = described_by (map (λ row. (row.0.now, row.1)) TRANSPORTS) path

-- the last digit of a number in base 16
abbrev pub hex_digit : ℕ → ℕ
hex_digit n = slice_index small_digits (n % 16)

-- the four digits of a number's low 16 bits in base 16
abbrev pub four_digits : ℕ → Text
four_digits n = hex_digit (n / 4096) ∷ hex_digit (n / 256) ∷ hex_digit (n / 16) ∷ hex_digit n ∷ []

-- the number of the unit of a SCSI device, in which its name ends
abbrev pub unit_number : DeviceValue → Option ℕ
unit_number m = option_and_then (number_in Decimal (2 ^ 64 - 1)) (name_number (last_component m.path))

-- a unit by its number: below 256 in decimal digits; else its low and then its high 16 bits in base 16, and eight zeros
abbrev pub numbered_unit : ℕ → Text
numbered_unit n =
    if nat_lt n 256 then concat (codes "lun-" ∷ decimal n ∷ [])
    else concat (codes "lun-0x" ∷ four_digits n ∷ four_digits (n / 65536) ∷ codes "00000000" ∷ [])

-- the unit of a SCSI device as a part has it
unfoldable pub unit_text : DeviceValue → Text
unit_text m = option_map_or numbered_unit (unit_number m) (codes "(null)")

-- Fibre Channel, by the port of the target: without one the way ends
unfoldable pub fibre_stop : DeviceValue → List DeviceValue → Stop
fibre_stop m above =
    option_map_or (λ port. adding (concat (codes "fc-" ∷ port ∷ codes "-" ∷ unit_text m ∷ [])) true true 0)
    (class_attribute_at (from_first (codes "scsi_target") above) 0 (codes "fc_transport") (codes "port_name"))
    (ending true true (codes "port_name" ∷ []))

-- SAS, at a port of several phys: the address of the end device, without which the way ends
abbrev pub wide_stop : DeviceValue → List DeviceValue → Stop
wide_stop m devices =
    option_map_or (λ sas. adding (concat (codes "sas-" ∷ sas ∷ codes "-" ∷ unit_text m ∷ [])) true true 0)
    (class_attribute_at devices 1 (codes "sas_device") (codes "sas_address")) (ending true true (codes "sas_address" ∷ []))

-- the part of SAS at one phy: after an expander with its address
abbrev pub phy_part : DeviceValue → (phy : Text) → (sas : Option Text) → Text
phy_part m phy None = concat (codes "sas-phy" ∷ phy ∷ codes "-" ∷ unit_text m ∷ [])
phy_part m phy (Some sas) = concat (codes "sas-exp" ∷ sas ∷ codes "-phy" ∷ phy ∷ codes "-" ∷ unit_text m ∷ [])

-- SAS, at one phy, by the device above the port; the block would have to report the address of an expander
abbrev pub expander_stop : DeviceValue → (phy : Text) → (expander : DeviceValue) → Stop
expander_stop m phy expander =
    let sas = class_attribute (codes "sas_device") (codes "sas_address") expander in
    record (adding (phy_part m phy sas) true true 0) {
      needs = if begins (codes "expander") (last_component expander.path) then absent (codes "sas_address") sas else [];
    }

-- SAS, at one phy: without its number, or a device above the port, the way ends
abbrev pub narrow_stop : DeviceValue → List DeviceValue → Stop
narrow_stop m devices =
    option_map_or (λ phy. option_map_or (expander_stop m phy) (slice_get devices 3) (ending true true []))
    (class_attribute_at devices 1 (codes "sas_device") (codes "phy_identifier")) (ending true true (codes "phy_identifier" ∷ []))

-- SAS, by the devices from the target on, above which are the end device, then the port, then an expander or the host,
-- and by the number of phys that the port has: without such a number the way ends
unfoldable pub sas_stop : DeviceValue → List DeviceValue → Stop
sas_stop m above =
    let devices = from_first (codes "scsi_target") above in
    option_map_or (λ phys.
    option_map_or (λ count. if nat_lt 1 count then wide_stop m devices else narrow_stop m devices)
    (number_in AsWritten (2 ^ 32 - 1) phys) (ending true true []))
    (class_attribute_at devices 2 (codes "sas_port") (codes "num_phys")) (ending true true (codes "num_phys" ∷ []))

-- an attribute of the connection 0 of a session
abbrev pub portal_attribute : (name : Text) → DeviceValue → Option Text
portal_attribute name session =
    option_and_then
    (λ n. attribute session (concat (codes "connection" ∷ n ∷ codes ":0/iscsi_connection/connection" ∷ n ∷ codes ":0/" ∷ name ∷ [])))
    (name_number (last_component session.path))

-- what a block would have to report about a portal
abbrev pub portal_needs : (address port : Option Text) → List Text
portal_needs address port = absent (codes "persistent_address") address ++ absent (codes "persistent_port") port

-- iSCSI: the portal and the target of the session
abbrev pub portal_stop : DeviceValue → (target : Text) → (address port : Option Text) → Stop
portal_stop m target (Some address) (Some port) =
    adding (concat (codes "ip-" ∷ address ∷ codes ":" ∷ port ∷ codes "-iscsi-" ∷ target ∷ codes "-" ∷ unit_text m ∷ [])) true true 0
portal_stop m target address port = ending true true (portal_needs address port)

-- the same by a session: without a target the way ends
abbrev pub session_stop : DeviceValue → (session : DeviceValue) → Stop
session_stop m session =
    option_map_or (λ target. portal_stop m target (portal_attribute (codes "persistent_address") session) (portal_attribute (codes "persistent_port") session))
    (class_attribute (codes "iscsi_session") (codes "targetname") session) (ending true true (codes "targetname" ∷ []))

-- iSCSI, by the nearest session above, which its name shows: without one the way ends
unfoldable pub iscsi_stop : DeviceValue → List DeviceValue → Stop
iscsi_stop m above =
    option_map_or (session_stop m) (find (λ device. begins (codes "session") (last_component device.path)) above) (ending true true [])

-- the place at a port of ATA: the target; or the bus, if it is not 0, as it is after a multiplier
abbrev pub ata_place : Address → Text
ata_place place = if place.bus == 0 then decimal place.target else concat (decimal place.bus ∷ codes ".0" ∷ [])

-- ATA: what a device adds, by its place and the number of the port: without that number the way ends
abbrev pub ata_port_stop : Address → Option Text → Stop
ata_port_stop place None = ending true false (codes "port_no" ∷ [])
ata_port_stop place (Some port) =
    record (adding (concat (codes "ata-" ∷ port ∷ codes "." ∷ ata_place place ∷ [])) true false 0) { share = Ata (concat (codes "ata-" ∷ port ∷ [])) }

-- the same by the address: without one the way ends; the port is right above the host
unfoldable pub ata_stop : DeviceValue → List DeviceValue → Stop
ata_stop m above =
    option_map_or (λ place. ata_port_stop place (class_attribute_at (from_first (codes "scsi_host") above) 1 (codes "ata_port") (codes "port_no")))
    (address_of (last_component m.path)) (ending true false [])

-- what is between braces at the start of a text, so many bytes including the braces, without `-`
abbrev pub braced : (size : ℕ) → Text → Text
braced size text = filter (λ b. not (b == minus)) (take (size - 2) (drop 1 text))

-- Hyper-V, by the name of the device above the host: without one that begins with a brace, and of which the last of so
-- many bytes closes it, the way ends
unfoldable pub guid_stop : DeviceValue → List DeviceValue → (size : ℕ) → Stop
guid_stop m above size =
    option_map_or (λ guid.
    if begins_with open_brace guid && slice_index guid (size - 1) == close_brace then
    adding (concat (codes "vmbus-" ∷ braced size guid ∷ codes "-" ∷ unit_text m ∷ [])) true false 0
    else ending true false [])
    (attribute_at (from_first (codes "scsi_host") above) 1 (codes "device_id")) (ending true false (codes "device_id" ∷ []))

-- a folder, if its name begins with `host`
abbrev pub in_host : Text → Option Text
in_host folder = if begins (codes "host") folder then Some folder else None

-- the name of a folder `host*` in which an attribute is
abbrev pub host_name : (attribute : Text) → Option Text
host_name attribute = option_and_then (λ cut. in_host cut.0) (split_once slash attribute)

-- the folders of hosts in the folder of a device
unfoldable pub host_names : DeviceValue → List Text
host_names m = filter_map (λ pair. host_name pair.0) m.attrs

-- the number of a folder of a host
abbrev pub host_number : Text → Option ℕ
host_number name = number_in Decimal (2 ^ 32 - 1) (drop 4 name)

-- the lower of two numbers, of which the first may be absent
abbrev pub lower : Option ℕ → ℕ → Option ℕ
lower None n = Some n
lower (Some m) n = Some (min m n)

-- the lowest number of these folders, if one has a number
unfoldable pub lowest : List Text → Option ℕ
lowest names = fold lower None (filter_map host_number names)

-- the part of every other transport: the address, whose first number counts from the lowest host beside the
-- device's own
abbrev pub host_part : Address → ℕ → Text
host_part place first =
    concat (codes "scsi-" ∷ decimal (place.host - first) ∷ codes ":" ∷ decimal place.bus
    ∷ codes ":" ∷ decimal place.target ∷ codes ":" ∷ decimal place.unit ∷ [])

-- what a device adds by every other transport, by its host and the folders of hosts beside that: nothing if no folder
-- has a number, and the way goes on above the host; if the block does not report the host's own folder, it reports none,
-- and nothing can be found out
abbrev pub host_stop : Address → ℕ → (host : Text) → (hosts : List Text) → Stop
host_stop place count host hosts =
    if is_among hosts host then
    option_map_or (λ first. adding (host_part place first) true false count) (lowest hosts) (record (passing true) { next = On count })
    else record (ending true false (codes "host*" ∷ [])) { next = Fails }

-- the folders of hosts beside a host: those in the folder that it is in, if this is that of the device above it
abbrev pub beside_host : (host : DeviceValue) → (above : Option DeviceValue) → List Text
beside_host host None = []
beside_host host (Some above) = if same_text above.path (folder host.path) then host_names above else []

-- what a device adds by every other transport: without an address or a host the way ends
unfoldable pub other_stop : DeviceValue → List DeviceValue → Stop
other_stop m above =
    let devices = from_first (codes "scsi_host") above in
    option_map_or (λ place.
    option_map_or (λ host.
    host_stop place (below_first (codes "scsi_host") above + 1) (last_component host.path) (beside_host host (slice_get devices 1)))
    (slice_get devices 0) (ending true false []))
    (address_of (last_component m.path)) (ending true false [])

-- what a SCSI device adds by its transport
abbrev pub transport_stop : Option Transport → DeviceValue → List DeviceValue → Stop
transport_stop None m above = other_stop m above
transport_stop (Some transport.FibreChannel) m above = fibre_stop m above
transport_stop (Some transport.Sas) m above = sas_stop m above
transport_stop (Some transport.Iscsi) m above = iscsi_stop m above
transport_stop (Some transport.Ata) m above = ata_stop m above
transport_stop (Some transport.HyperV) m above = guid_stop m above 37
transport_stop (Some transport.HyperVByAcpi) m above = guid_stop m above 38

-- what a device of subsystem scsi adds: only one of type scsi_device adds a part; FireWire counts before what the path
-- shows
unfoldable pub scsi_stop : DeviceValue → List DeviceValue → Stop
scsi_stop m above =
    if is_text (codes "scsi_device") (type_of m) then
    option_map_or (λ id. adding (concat (codes "ieee1394-0x" ∷ id ∷ [])) true true (row (codes "scsi") above)) (attribute m (codes "ieee1394_id"))
    (transport_stop (transport_of m.path) m above)
    else passing true
