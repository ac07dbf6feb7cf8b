-- What distinguishes the ports of one function.
use Rattle.std.specs.Prelude.{ℕ, ◌==◌, ◌&&◌, Bool, [], ◌++◌, codes, decimal, Option, Some, None, option_map, option_and_then, if◌then◌else◌}
use Rattle.std.specs.Bool.{then_some}
use Rattle.std.specs.Option.{option_or}
use Rattle.text_bytes.specs.Texts.{following}
use Rattle.text_bytes.specs.Text.{Text}
use Rattle.device_core.specs.Values.{DeviceValue}
use Rattle.builtin_devices.specs.Devices.{some_text}
use Rattle.builtin_net.specs.Allowed.{number, read}
use Rattle.builtin_net.specs.Prefixes.{is_infiniband}
use Rattle.builtin_net.specs.Words.{leading_number, is_printable}
use Rattle.builtin_net.specs.declared.allowed.Attribute.TheVariants.{PhysPortName, DevPort, DevId}
use Rattle.builtin_net.specs.declared.prefixes.Prefix.{Prefix}

-- the virtual function that the interface of a switch stands for, such as 3 if its port is called `pf0vf3`
unfoldable pub represented : Text → Option ℕ
represented name =
    option_and_then (λ physical. option_map (λ n. n.0) (option_and_then leading_number (following (codes "vf") physical.1)))
    (option_and_then leading_number (following (codes "pf") name))

-- a port by its name, if that may be part of an interface's name
unfoldable pub named_port : Text → Option Text
named_port name = option_or (option_map (λ n. codes "r" ++ decimal n) (represented name)) (then_some (is_printable name) (codes "n" ++ name))

-- the number of a port: for InfiniBand dev_id if dev_port is 0 and dev_id counts
unfoldable pub port_number : Prefix → DeviceValue → (by_id : Bool) → Option ℕ
port_number prefix interface by_id =
    option_and_then (λ n. if n == 0 && (by_id && is_infiniband prefix) then number interface DevId else Some n) (number interface DevPort)

-- a port by its name if it has one, else by its number, the first of which is not reported; none if it can't be given
abbrev pub port_by : (name : Option Text) → (number : Option ℕ) → Option Text
port_by None number = option_map (λ n. if n == 0 then [] else codes "d" ++ decimal n) number
port_by (Some name) number = named_port name

-- what names of an interface say about its port; none if no name can be given
unfoldable pub port_text : Prefix → DeviceValue → (by_id : Bool) → Option Text
port_text prefix interface by_id = port_by (some_text (read interface PhysPortName)) (port_number prefix interface by_id)
