use Rattle.std.proofs.Common.{refl}
use Rattle.text_bytes.specs.Numbers.{decimal_below}
use Rattle.text_bytes.specs.Texts.{split_once}
use Rattle.builtin_devices.specs.Addresses.{address_of}
use Rattle.builtin_core.specs.Kinds.{is_at_port, is_function, is_in_slot, is_interface, is_on_bus, is_place, kind_of}
use Rattle.builtin_core.proofs.laws.names_say_what_devices_are.Goals as goal

pub returns : goal.returns
unfolding kind_of is_at_port is_interface is_in_slot is_on_bus is_function is_place split_once address_of decimal_below
returns c = record { function = refl; domain = refl; hub = refl; port = refl; interface = refl; host = refl; target = refl; unit = refl; controller = refl; subsystem = refl; virtio = refl; serio = refl; input = refl }
