use Rattle.std.proofs.Common.{refl}
use Rattle.text_bytes.specs.Numbers.{decimal_below}
use Rattle.text_bytes.specs.Texts.{split_once}
use Rattle.builtin_devices.specs.Addresses.{address_of}
use Rattle.builtin_core.specs.Kinds.{is_at_port, is_function, is_in_slot, is_interface, is_on_bus, is_place, kind_of}
use Rattle.builtin_core.proofs.laws.other_names_say_nothing.Goals as goal

pub returns : goal.returns
unfolding kind_of is_at_port is_interface is_in_slot is_on_bus is_function is_place split_once address_of decimal_below
returns c = record { bus = refl; folder = refl; node = refl; hid = refl; port = refl; place = refl; ports = refl }
